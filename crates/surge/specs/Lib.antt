pub mod Lent
pub mod Open
pub mod Step
pub mod StepAll
