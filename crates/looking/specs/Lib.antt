pub mod Lent
pub mod Looking
pub mod Private
