pub mod Finds
pub mod Told
