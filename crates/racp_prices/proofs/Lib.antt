pub mod lemmas
mod Lists
mod Cutting
mod Tables
mod Answering
mod Limits
mod Parts
mod Factors
mod Commas
mod WantedTables
mod ReadBack
