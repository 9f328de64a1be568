pub mod lemmas
mod Topological
mod Raising
mod Sorting
mod Rings
mod Making
mod JobSets
mod Bits
