-- Lemmas on series of questions, which the crates above may cite too. What else stands in proofs/ is about the code of this
-- crate and its laws.
pub mod Forms
pub mod OneBox
