-- Laws of the definitions, for the proofs of crates above. Each is proved, so none has to be believed.
pub mod Exchanges
pub use Rattle.mh_share.specs.Laws.Exchanges.{all_kept, all_renewed, all_taken, all_with, ledger_there, ledgers_after, one_more, same_count, same_links}
