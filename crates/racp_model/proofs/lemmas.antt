-- Lemmas on the definitions of this crate, which the crates above may cite too. What else stands in proofs/ is about the
-- code of this crate.
pub mod Lists
pub mod Rows
pub mod Zeros
pub mod Sums
pub mod Greater
pub mod Usage
pub mod CoreTimes
pub mod Parts
pub mod Latest
pub mod Arcs
pub mod Ranking
pub mod Orders
pub mod Costs
pub mod Cuts
pub mod Relations
pub mod Inserting
pub mod Results
pub mod Decided
pub mod Leasts
pub mod Tested
