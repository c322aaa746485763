pub mod WholeLaws
pub mod WeightLaws
pub mod SpreadLaws
pub mod LowestLaws
pub mod SightLaws
pub mod FillLaws
pub mod InsideLaws
