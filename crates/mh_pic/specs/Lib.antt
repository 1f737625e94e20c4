pub mod Chains
pub mod Keys
pub mod Laws
pub mod Limits
pub mod Outcomes
pub mod Specialised
