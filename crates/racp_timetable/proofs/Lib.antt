mod Moving
mod Cores
