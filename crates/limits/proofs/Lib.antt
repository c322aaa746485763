pub mod BoundLaws
