use Rattle.std.proofs.Common.{ℕ, ◌+◌, ◌<◌, ◌≤◌}
use Rattle.mh_ledger.specs.Ledgers.{at}
use Rattle.mh_ledger.proofs.sums.all_fit.Given as goal

abbrev pub invariant-loop-place : goal.invariant-loop-place
invariant-loop-place l = (j : ℕ) → j < l.place → at l.sums j + at l.more j ≤ l.limit
