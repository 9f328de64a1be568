-- Lemmas on floors and roofs, which the crates above may cite too. What else stands in proofs/ is about the code of this
-- crate and its laws.
pub mod Above
pub mod Sharpened
pub mod Cutting
