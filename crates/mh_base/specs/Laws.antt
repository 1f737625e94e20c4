-- Laws of the definitions, for the proofs of crates above. Each is proved, so none has to be believed.
pub mod Listed
pub use Rattle.mh_base.specs.Laws.Listed.{passes, fails, made_is}
