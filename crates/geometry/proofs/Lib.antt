pub mod SizeLaws
pub mod GeometryLaws
