pub mod LaidLaws
pub mod BuildLaws
pub mod WholeLaws
