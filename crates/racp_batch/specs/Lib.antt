pub mod Cases
pub mod Listing
pub mod Orders
pub mod Rows
pub mod Lines
pub mod Places
pub mod Tables
