pub mod lemmas
mod Digits
