pub mod Determined
pub mod Printing
pub mod Grids
pub mod Gauges
pub mod Every
