use Rattle.std.proofs.Common.{◌≡◌, map, take}
use Rattle.mh_ledger.specs.Renewals.{left_of}
use Rattle.mh_core.proofs.renewing.left_hits.Given as goal

abbrev pub invariant-loop-count : goal.invariant-loop-count
invariant-loop-count l = l.left.items ≡ map (left_of l.hits) (take l.count-index l.flushed)
