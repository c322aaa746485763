pub mod LogLaws
pub mod MeshLaws
mod LineLaws
pub mod GroupLaws
pub mod WholeLaws
pub mod SpellingLaws
pub mod EmptyLaws
pub mod SavableLaws
