pub mod Computing
pub mod ExamplesProof
pub mod ComputedProof
pub mod LatestProof
pub mod CaughtProof
