pub mod lemmas
mod FirstYes
