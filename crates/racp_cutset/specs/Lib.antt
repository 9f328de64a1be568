pub mod Covering
pub mod Laws
pub mod Rows
pub mod Kept
pub mod Lending
pub mod Outlines
pub mod Records
pub mod Told
