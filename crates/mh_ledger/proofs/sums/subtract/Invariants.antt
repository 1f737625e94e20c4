use Rattle.std.proofs.Common.{◌≡◌, ℕ, ◌+◌, ◌<◌, ◌≤◌, length}
use Rattle.mh_ledger.specs.Ledgers.{at}
use Rattle.mh_ledger.proofs.sums.subtract.Given as goal

abbrev pub invariant-loop-place : goal.invariant-loop-place
invariant-loop-place l = record {
  same : length l.sums.items ≡ length l.fn.sums.items;
  before : (j : ℕ) → j < l.place → at l.sums.items j + at l.less j ≡ at l.fn.sums.items j;
  rest : (j : ℕ) → l.place ≤ j → at l.sums.items j ≡ at l.fn.sums.items j;
}
