pub mod Examples
pub mod Computed
