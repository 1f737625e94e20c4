-- Laws of the definitions, for the proofs of crates above. Each is proved, so none has to be believed.
pub mod Crossing
pub mod SameKind
pub mod SameValue
pub use Rattle.mh_type.specs.Laws.Crossing.{ValuesCross}
pub use Rattle.mh_type.specs.Laws.SameKind.{kind_eq_decides, kinds_eq_decides, signature_eq_decides}
pub use Rattle.mh_type.specs.Laws.SameValue.{values_decide}
