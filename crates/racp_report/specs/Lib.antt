pub mod Claims
pub mod Reports
pub mod Drawings
pub mod Pages
