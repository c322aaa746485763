pub mod Numbers
pub mod Scan
pub mod Refusals
pub mod Says
pub mod SaysLaws
