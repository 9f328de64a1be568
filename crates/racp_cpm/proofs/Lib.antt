pub mod lemmas
mod Raising
mod Paths
mod Lowering
mod Ends
