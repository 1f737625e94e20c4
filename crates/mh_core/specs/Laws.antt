-- Laws of the definitions, for the proofs of crates above. Each is proved, so none has to be believed.
pub mod Caches
pub mod Changes
pub mod Crossing
pub mod Extending
pub mod InvokedTrees
pub mod LawfulLinks
pub mod Members
pub mod MoreSites
pub mod Numbered
pub mod PastSnapshots
pub mod PlanTables
pub mod ProblemRows
pub mod Renewing
pub mod StandingTrees
pub mod Worlds
pub use Rattle.mh_core.specs.Laws.Changes.{change_of}
pub use Rattle.mh_core.specs.Laws.InvokedTrees.{levels_of, links_known, links_lawful, links_mean}
pub use Rattle.mh_core.specs.Laws.LawfulLinks.{few_links}
pub use Rattle.mh_core.specs.Laws.PastSnapshots.{snapshots_count}
pub use Rattle.mh_core.specs.Laws.PlanTables.{plans_count}
pub use Rattle.mh_core.specs.Laws.Renewing.{means_the_same, renewed_links}
pub use Rattle.mh_core.specs.Laws.StandingTrees.{stands}
pub use Rattle.mh_core.specs.Laws.Worlds.{oldest_push, world_front, world_push}
