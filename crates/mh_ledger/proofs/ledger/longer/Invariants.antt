use Rattle.std.proofs.Common.{◌≡◌, ◌++◌, replicate}
use Rattle.mh_ledger.proofs.ledger.longer.Given as goal

abbrev pub invariant-loop-link : goal.invariant-loop-link
invariant-loop-link l = l.all.items ≡ l.counts ++ replicate l._link 0
