mod Working
mod Probing
mod Asking
mod Turns
pub mod lemmas
mod Cutting
mod Learning
mod Foreseeing
mod Halves
mod Cheapest
mod Choosing
mod Deciding
mod Fixing
mod ByHalves
mod Raising
mod Staging
mod Telling
