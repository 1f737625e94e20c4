-- Definitions that only the clauses of private functions use: no promise asks for them to be read.
pub mod Levels
pub mod Limits
pub mod Picks
pub mod Quiet
pub mod Runs
