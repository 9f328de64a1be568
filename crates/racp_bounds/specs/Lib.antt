pub mod Floors
pub mod Laws
pub mod Sharp
