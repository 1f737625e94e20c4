-- Laws of the definitions, for the proofs of crates above. Each is proved, so none has to be believed.
pub mod Between
pub mod Duality
pub mod Halves
pub mod Kept
pub mod Members
pub mod Nested
pub mod Net
pub mod Nets
pub mod Optimal
pub mod SumLaws
pub mod Weighing
pub use Rattle.mh_network.specs.Laws.Kept.{kept_charges, kept_costs, kept_gains, large_problem, tested_problem}
pub use Rattle.mh_network.specs.Laws.Members.{member_is}
pub use Rattle.mh_network.specs.Laws.Optimal.{best_by_flow}
