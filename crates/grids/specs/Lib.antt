pub mod Text
pub mod Numbers
pub mod Grid
pub mod Private
