pub mod ResultLaws
pub mod KindLaws
pub mod Outcomes
pub mod PrintingProof
pub mod GridsProof
pub mod GaugesProof
