pub mod Outcomes
pub mod Boxes
pub mod Choices
