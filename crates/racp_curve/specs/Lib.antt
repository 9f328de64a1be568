pub mod Curves
pub mod Following
pub mod Texts
pub mod Laws
