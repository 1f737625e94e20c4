use Rattle.std.proofs.Common.{◌≡◌, map}
use Rattle.std.specs.List.{range_with_len}
use Rattle.mh_ledger.specs.Ledgers.{opened_ledger}
use Rattle.mh_ledger.proofs.totals.open_ledgers.Given as goal

abbrev pub invariant-loop-worker : goal.invariant-loop-worker
invariant-loop-worker l = l.ledgers.items ≡ map (opened_ledger l.links l.limit) (range_with_len 0 l.worker)
