mod Cutting
mod Naming
mod Noting
mod Repeats
mod Sections
mod Limits
mod Answering
