pub mod Alternatives
pub mod Branching
pub mod Laws
pub mod Found
pub mod Sweeps
pub mod Scans
pub mod Reach
