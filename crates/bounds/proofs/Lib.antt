pub mod StateLaws
pub mod ForcingLaws
pub mod ListLaws
