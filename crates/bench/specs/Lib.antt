pub mod Called
pub mod Found
pub mod Tallies
