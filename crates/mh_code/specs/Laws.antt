-- Laws of the definitions, for the proofs of crates above. Each is proved, so none has to be believed.
pub mod Above
pub mod Costs
pub mod Crossing
pub mod Means
pub mod Scoped
pub mod Shifts
pub mod Switches
pub mod Truths
