pub mod KindLaws
pub mod ByteLaws
pub mod TallyLaws
pub mod FrameLaws
pub mod TextLaws
pub mod BackLaws
pub mod SpellingLaws
pub mod WrittenLaws
mod Worked
