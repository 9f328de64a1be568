pub mod Working
pub mod Crowds
pub mod Enough
pub mod Searched
pub mod Stops
pub mod Stages
pub mod Fixing
pub mod Boxed
