mod Fields
mod Opened
mod Told
pub mod Terms
