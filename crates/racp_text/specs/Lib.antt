pub mod Cuts
pub mod Numbers
pub mod Faults
pub mod Kept
pub mod Reading
pub mod Laws
