pub mod PlanFaults
pub mod PlanTests
pub mod CheckLaws
pub mod Leastness
