use Rattle.std.proofs.Common.{◌≡◌, map}
use Rattle.std.specs.List.{range_with_len}
use Rattle.mh_ledger.specs.Resumptions.{share_of_worker}
use Rattle.mh_ledger.proofs.totals.resume_shares.Given as goal

abbrev pub invariant-loop-worker : goal.invariant-loop-worker
invariant-loop-worker l = map (λ share. share.items) l.shares.items ≡ map (share_of_worker l.hits) (range_with_len 0 l.worker)
