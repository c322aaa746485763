pub mod PatternLaws
mod Worked
