mod Pieces
mod Fields
mod NextDay
