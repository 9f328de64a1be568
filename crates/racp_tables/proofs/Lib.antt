pub mod Equal
pub mod Parts
pub mod Tables
mod Cuts
mod RowsRead
mod CellTies
mod Shares
mod Blanks
mod Groups
mod AllNeeds
mod Places
