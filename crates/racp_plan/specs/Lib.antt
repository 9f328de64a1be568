pub mod Texts
pub mod TextFaults
pub mod PlanReading
pub mod Steps
pub mod TextLaws
pub mod Plans
pub mod Fitting
