use Rattle.std.proofs.Common.{◌≡◌, take}
use Rattle.mh_stress.proofs.settled.unflushed_hits.Given as goal

abbrev pub invariant-loop-link : goal.invariant-loop-link
invariant-loop-link g l = l.unflushed.items ≡ take l.link l.settled.unflushed
