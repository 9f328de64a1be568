pub mod Writing
pub mod Inputs
