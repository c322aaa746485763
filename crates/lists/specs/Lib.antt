pub mod Table
pub mod Runs
pub mod Gather
pub mod Private
