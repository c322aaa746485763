pub mod Load
pub mod Storable
pub mod Private
