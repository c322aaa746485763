pub mod Peaks
