pub mod Series
pub mod FirstYes
pub mod Laws
