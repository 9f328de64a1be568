pub mod Lines
pub mod Faults
pub mod Head
pub mod Parts
pub mod Reading
pub mod Steps
pub mod Laws
