pub mod Machine
pub mod Truth
pub mod Steps
pub mod Replies
pub mod Runs
pub mod Rows
