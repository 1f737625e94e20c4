use Rattle.std.proofs.Common.{◌≡◌, ℕ, ◌<◌, ◌≤◌, length}
use Rattle.mh_ledger.specs.Ledgers.{ledger_at}
use Rattle.mh_ledger.specs.Renewals.{renewed_ledger}
use Rattle.mh_ledger.proofs.totals.renew_all.Given as goal

abbrev pub invariant-loop-worker : goal.invariant-loop-worker
invariant-loop-worker l = record {
  same : length l.ledgers.items ≡ length l.fn.ledgers.items;
  before : (w : ℕ) → w < l.worker → ledger_at l.ledgers.items w ≡ renewed_ledger l.hits (ledger_at l.fn.ledgers.items w);
  rest : (w : ℕ) → l.worker ≤ w → ledger_at l.ledgers.items w ≡ ledger_at l.fn.ledgers.items w;
}
