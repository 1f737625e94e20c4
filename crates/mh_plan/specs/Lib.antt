pub mod Solved
pub mod Joined
pub mod Phases
pub mod inner
