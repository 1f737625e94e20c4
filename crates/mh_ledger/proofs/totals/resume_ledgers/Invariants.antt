use Rattle.std.proofs.Common.{◌≡◌, map}
use Rattle.std.specs.List.{range_with_len}
use Rattle.mh_ledger.specs.Resumptions.{resumed_ledger}
use Rattle.mh_ledger.proofs.totals.resume_ledgers.Given as goal

abbrev pub invariant-loop-worker : goal.invariant-loop-worker
invariant-loop-worker l = l.ledgers.items ≡ map (resumed_ledger l.hits l.limit) (range_with_len 0 l.worker)
