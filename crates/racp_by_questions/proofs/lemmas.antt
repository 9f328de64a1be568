-- Lemmas on vectors of which one is at most another, which the crates above may cite too.
pub mod AtMost
