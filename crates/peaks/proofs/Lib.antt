pub mod OrderLaws
pub mod LevelLaws
pub mod HighestLaws
pub mod PeakLaws
