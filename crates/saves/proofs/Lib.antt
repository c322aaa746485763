pub mod LineLaws
pub mod WriteLaws
pub mod SaveLaws
