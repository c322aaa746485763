pub mod PieceLaws
pub mod NumeralLaws
pub mod WrittenLaws
