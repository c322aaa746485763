pub mod Record
pub mod Keeping
