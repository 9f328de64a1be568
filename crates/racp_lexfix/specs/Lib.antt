pub mod Answers
pub mod Texts
pub mod Printing
pub mod Stages
pub mod Laws
pub mod Variants
