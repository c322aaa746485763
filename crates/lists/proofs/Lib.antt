pub mod TableLaws
pub mod RunLaws
pub mod GatherLaws
