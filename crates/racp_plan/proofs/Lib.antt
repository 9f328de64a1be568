pub mod lemmas
mod TextLines
mod Repeats
mod PlanTexts
mod Telling
mod Written
mod FirstFaults
mod Adequate
