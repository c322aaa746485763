pub mod ReplyLaws
pub mod OpenLaws
pub mod StepLaws
pub mod NumberLaws
pub mod NextLaws
pub mod ColdLaws
pub mod SingleLaws
pub mod StepAllLaws
