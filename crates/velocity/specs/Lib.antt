pub mod Velocity
