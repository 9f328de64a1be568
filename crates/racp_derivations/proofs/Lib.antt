mod Numbering
mod Splitting
mod Rooted
mod TellingBounds
mod CostLeaving
mod Inferring
mod Halving
mod Idling
