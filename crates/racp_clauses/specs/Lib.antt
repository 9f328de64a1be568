pub mod Solutions
pub mod Clauses
pub mod Inferences
pub mod Rules
pub mod Roots
pub mod Uses
pub mod Least
pub mod Tests
