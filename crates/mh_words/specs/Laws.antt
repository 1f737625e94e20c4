-- Laws of the definitions, for the proofs of crates above. Each is proved, so none has to be believed.
pub mod Crossing
