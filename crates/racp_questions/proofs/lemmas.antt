-- Lemmas on lists of questions and on their members, which the crates above may cite too.
pub mod Answered
pub mod Walks
pub mod Members
