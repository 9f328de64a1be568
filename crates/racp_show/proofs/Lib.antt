mod Spans
mod Greatest
mod Adding
mod Rows
mod Fitting
mod Drawn
mod Naming
mod Cutting
mod Criticals
mod Reading
mod Within
mod Outlining
mod Behind
mod Shown
pub mod Fields
