pub mod Location
pub mod Survey
pub mod Private
