pub mod lemmas
mod Cores
mod Energy
mod Used
mod Raising
mod Refuting
mod Counting
