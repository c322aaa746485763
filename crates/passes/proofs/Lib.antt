pub mod PassLaws
pub mod SettleLaws
pub mod NextLaws
pub mod TurnLaws
pub mod ListLaws
pub mod SettleAllLaws
