pub mod RowLaws
pub mod ShapedLaws
pub mod SideLaws
