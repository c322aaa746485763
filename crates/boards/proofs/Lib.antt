pub mod MarkLaws
pub mod FortyProof
pub mod LevelProof
pub mod GaugesProof
