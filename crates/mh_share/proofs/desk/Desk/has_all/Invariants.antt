use Rattle.std.proofs.Common.{◌≡◌, ℕ, ◌<◌, length}
use Rattle.mh_ledger.specs.Ledgers.{ledger_at}
use Rattle.mh_share.specs.Renewals.{IsOf, ledgers_of}
use Rattle.mh_share.proofs.desk.Desk.has_all.Given as goal

abbrev pub invariant-loop-worker : goal.invariant-loop-worker
invariant-loop-worker l = record {
  each : (w : ℕ) → w < l.worker → IsOf l.self.book w (ledger_at (ledgers_of l.callers) w);
  links : (w : ℕ) → w < l.worker → length (ledger_at (ledgers_of l.callers) w).unflushed ≡ length l.self.book.totals.total;
}
