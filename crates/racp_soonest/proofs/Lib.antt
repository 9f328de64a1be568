mod Deadlines
mod Reasons
mod Spans
mod OneSoonest
mod TextLines
