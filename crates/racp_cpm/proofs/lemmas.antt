-- Lemmas on the definitions of racp_model, which the crates above may cite too. What else stands in proofs/ is about the code
-- of this crate and its laws.
pub mod Roots
pub mod Bounded
pub mod Rooted
pub mod Openings
pub mod LastEnds
pub mod SomeEarly
