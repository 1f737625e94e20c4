mod Claims
mod ProblemInputs
mod Reports
mod Runs
mod Scripts
pub mod Values
