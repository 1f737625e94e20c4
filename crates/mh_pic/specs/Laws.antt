-- Laws of the definitions, for the proofs of crates above. Each is proved, so none has to be believed.
pub mod Bounds
pub mod Chains
pub mod Invocations
pub mod Kept
pub mod KeyTests
pub mod ResolvedTrees
pub mod SpecialisedTrees
pub use Rattle.mh_pic.specs.Laws.Bounds.{chain_bound, resolved_bound}
pub use Rattle.mh_pic.specs.Laws.Chains.{chain_faithful}
pub use Rattle.mh_pic.specs.Laws.Invocations.{chain_invokes, chain_sites, faithful_means, resolved_invokes, specialised_invokes}
pub use Rattle.mh_pic.specs.Laws.Kept.{resolved_typed}
pub use Rattle.mh_pic.specs.Laws.ResolvedTrees.{retired_at, retired_mean, retired_sites, retired_steps}
