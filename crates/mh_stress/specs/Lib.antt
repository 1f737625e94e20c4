pub mod Divisions
pub mod Rounds
pub mod Stress
