pub mod Narrowing
pub mod Moving
pub mod Cores
pub mod Laws
