mod Pieces
mod Rows
mod Marks
