use Rattle.std.proofs.Common.{◌≡◌, ℕ, ◌<◌, ◌≤◌, length}
use Rattle.mh_ledger.specs.Ledgers.{at}
use Rattle.mh_ledger.specs.Renewals.{left_of}
use Rattle.mh_ledger.proofs.old_hits.lessen.Given as goal

abbrev pub invariant-loop-place : goal.invariant-loop-place
invariant-loop-place l = record {
  same : length l.numbers.items ≡ length l.fn.numbers.items;
  before : (j : ℕ) → j < l.place → at l.numbers.items j ≡ left_of l.hits (at l.fn.numbers.items j);
  rest : (j : ℕ) → l.place ≤ j → at l.numbers.items j ≡ at l.fn.numbers.items j;
}
