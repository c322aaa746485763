pub mod Bytes
pub mod Kinds
pub mod Frames
pub mod Texts
pub mod Spelling
pub mod Reading
pub mod Private
