pub mod Subjects
pub mod Causes
pub mod Laws
