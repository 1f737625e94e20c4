use Rattle.std.proofs.Common.{◌≡◌, ℕ, ◌<◌, ◌≤◌, length}
use Rattle.mh_ledger.specs.Ledgers.{ledger_at}
use Rattle.mh_share.specs.Renewals.{with_ledger}
use Rattle.mh_share.proofs.NoCaller.{caller_at}
use Rattle.mh_share.proofs.renewing.exchange_all.Given as goal

abbrev pub invariant-loop-worker : goal.invariant-loop-worker
invariant-loop-worker l = record {
  callers : length l.callers.items ≡ length l.fn.callers.items;
  ledgers : length l.ledgers.items ≡ length l.fn.ledgers.items;
  given : (w : ℕ) → w < l.worker → caller_at l.callers.items w ≡ with_ledger (caller_at l.fn.callers.items w) (ledger_at l.fn.ledgers.items w);
  taken : (w : ℕ) → w < l.worker → ledger_at l.ledgers.items w ≡ (caller_at l.fn.callers.items w).ledger;
  to_give : (w : ℕ) → l.worker ≤ w → ledger_at l.ledgers.items w ≡ ledger_at l.fn.ledgers.items w;
  to_take : (w : ℕ) → l.worker ≤ w → caller_at l.callers.items w ≡ caller_at l.fn.callers.items w;
}
