pub mod LegLaws
