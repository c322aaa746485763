pub mod Operations
pub mod Constants
