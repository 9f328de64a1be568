-- Lemmas on the values of the variables and on solutions, which the crates above may cite too. What else stands in proofs/ is
-- about the code of this crate and its laws.
pub mod Places
pub mod Solutions
