use Rattle.std.proofs.Common.{◌≡◌, ℕ, ◌<◌, ◌≤◌, length, true}
use Rattle.std.specs.List.{All}
use Rattle.mh_ledger.specs.Ledgers.{ledger_at}
use Rattle.mhlink_c.specs.Callers.{with_ledger}
use Rattle.mhlink_c.specs.DeskRenewals.{callers_of}
use Rattle.mhlink_c.proofs.NoHandle.{held_at}
use Rattle.mhlink_c.proofs.desk_renewing.exchange_all.Given as goal

abbrev pub invariant-loop-worker : goal.invariant-loop-worker
invariant-loop-worker l = record {
  full : All (λ h. h.full ≡ true) l.callers;
  callers : length l.callers ≡ length l.fn.callers;
  ledgers : length l.ledgers.items ≡ length l.fn.ledgers.items;
  given : (w : ℕ) → w < l.worker → held_at (callers_of l.callers) w ≡ with_ledger (held_at (callers_of l.fn.callers) w) (ledger_at l.fn.ledgers.items w);
  taken : (w : ℕ) → w < l.worker → ledger_at l.ledgers.items w ≡ (held_at (callers_of l.fn.callers) w).caller.ledger;
  to_give : (w : ℕ) → l.worker ≤ w → ledger_at l.ledgers.items w ≡ ledger_at l.fn.ledgers.items w;
  to_take : (w : ℕ) → l.worker ≤ w → held_at (callers_of l.callers) w ≡ held_at (callers_of l.fn.callers) w;
}
