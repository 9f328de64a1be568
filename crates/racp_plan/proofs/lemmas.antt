-- Lemmas on the texts of this crate, which the crates above may cite too. What else stands in proofs/ is about the code of
-- this crate and its laws.
pub mod Numbers
pub mod Numbered
pub mod StartLines
pub mod Fronts
pub mod Digits
