use Rattle.std.proofs.Common.{◌≡◌, map, replicate}
use Rattle.mh_ledger.proofs.totals.open_shares.Given as goal

abbrev pub invariant-loop-worker : goal.invariant-loop-worker
invariant-loop-worker l = map (λ share. share.items) l.shares.items ≡ replicate l._worker (replicate l.links 0)
