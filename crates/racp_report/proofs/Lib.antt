mod Pieces
mod Halves
