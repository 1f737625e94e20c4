-- Laws of the definitions, for the proofs of crates above. Each is proved, so none has to be believed.
pub mod Added
pub mod Extensions
pub mod Flushes
pub mod Openings
pub mod Renewing
pub use Rattle.mh_ledger.specs.Laws.Added.{length-added}
pub use Rattle.mh_ledger.specs.Laws.Extensions.{at-longer, length-longer}
pub use Rattle.mh_ledger.specs.Laws.Flushes.{held_links}
pub use Rattle.mh_ledger.specs.Laws.Openings.{opened_lengths}
pub use Rattle.mh_ledger.specs.Laws.Renewing.{at-left, kept_totals, left_most, left_total, renewed_held}
