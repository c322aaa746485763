pub mod CrossLaws
