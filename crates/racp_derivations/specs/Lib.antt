pub mod Words
pub mod Lines
pub mod Pairs
pub mod Thinning
pub mod Checking
pub mod Texts
pub mod BoundTexts
