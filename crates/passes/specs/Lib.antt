pub mod Equations
pub mod Row13
pub mod Settle
pub mod InTurn
pub mod SettleAll
pub mod Private
