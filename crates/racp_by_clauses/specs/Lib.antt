pub mod Optima
