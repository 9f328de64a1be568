pub mod Proving
pub mod Showing
