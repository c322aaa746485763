pub mod Elevation
