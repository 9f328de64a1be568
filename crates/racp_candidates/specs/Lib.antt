pub mod Questions
pub mod Box
pub mod Laws
pub mod Vectors
pub mod Frontier
pub mod AnySeries
