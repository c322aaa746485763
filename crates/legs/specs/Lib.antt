pub mod Legs
pub mod Private
