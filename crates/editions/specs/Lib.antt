pub mod Lines
pub mod Editions
pub mod Rows
