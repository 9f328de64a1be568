mod Carrying
mod Counts
mod Searching
mod Choosing
mod Cutting
mod Planning
