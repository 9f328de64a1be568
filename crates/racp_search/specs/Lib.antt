pub mod Truth
pub mod Children
pub mod DepthFirst
pub mod Steps
pub mod Glances
pub mod Ends
pub mod Refuting
