use Rattle.std.proofs.Common.{◌≡◌}
use Rattle.mh_core.proofs.CountedHits.{counted_below}
use Rattle.mh_core.proofs.hits.hits_of.Given as goal

abbrev pub invariant-loop-link : goal.invariant-loop-link
invariant-loop-link l = record { items : l.hits.items ≡ counted_below l.counts l.link }
