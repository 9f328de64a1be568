pub mod Teams
pub mod Soonest
pub mod Steps
pub mod Laws
pub mod Texts
