pub mod Lines
pub mod Curves
pub mod Plans
pub mod Stops
