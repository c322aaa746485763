pub mod State
pub mod Forcing
