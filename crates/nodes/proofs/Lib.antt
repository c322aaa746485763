pub mod MarkLaws
pub mod PartLaws
