mod Heads
mod InTable
