-- Laws of the definitions, for the proofs of this crate and of crates above. Each is proved, so none has to be believed.
pub mod Crossing
pub mod Quiet
