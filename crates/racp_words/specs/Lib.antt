pub mod Rules
pub mod Batches
pub mod Tools
pub mod CommandLine
pub mod Commands
