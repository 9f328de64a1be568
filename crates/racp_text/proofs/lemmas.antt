-- Lemmas on reading, which the crates above may cite too. What else stands in proofs/ is about the code of this crate and its
-- law.
pub mod Cuts
pub mod Rows
