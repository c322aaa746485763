pub mod FaultLaws
pub mod SpellingLaws
