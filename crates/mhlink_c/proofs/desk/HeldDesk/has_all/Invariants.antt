use Rattle.std.proofs.Common.{◌≡◌, ℕ, ◌<◌, length, true}
use Rattle.std.specs.List.{All}
use Rattle.mh_ledger.specs.Ledgers.{ledger_at}
use Rattle.mh_share.specs.Renewals.{IsOf}
use Rattle.mhlink_c.specs.DeskRenewals.{callers_of, ledgers_of}
use Rattle.mhlink_c.proofs.desk.HeldDesk.has_all.Given as goal

abbrev pub invariant-loop-worker : goal.invariant-loop-worker
invariant-loop-worker l = record {
  full : All (λ h. h.full ≡ true) l.callers;
  count : length l.callers ≡ length l.fn.callers;
  same : callers_of l.callers ≡ callers_of l.fn.callers;
  each : (w : ℕ) → w < l.worker → IsOf l.self.desk.book w (ledger_at (ledgers_of (callers_of l.fn.callers)) w);
  links : (w : ℕ) → w < l.worker → length (ledger_at (ledgers_of (callers_of l.fn.callers)) w).unflushed ≡ length l.self.desk.book.totals.total;
}
