pub mod ForcingLaws
mod RoomLaws
pub mod SpellingLaws
