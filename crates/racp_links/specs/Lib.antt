pub mod Links
pub mod Faults
pub mod Laws
pub mod Phases
pub mod PhaseFaults
