pub mod lemmas
mod Values
mod Members
mod InOrder
mod Between
mod Reached
mod Distinct
mod Raised
mod Frontiers
mod Entered
mod Collecting
mod Heaps
mod Above
mod Boxes
