pub mod Save
pub mod Private
