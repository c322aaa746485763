pub mod Lent
pub mod Geometry
pub mod Rows
pub mod Private
