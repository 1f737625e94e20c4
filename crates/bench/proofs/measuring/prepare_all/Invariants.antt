use Rattle.std.proofs.Common.{◌≡◌, take}
use Rattle.bench.proofs.measuring.prepare_all.Given as goal

abbrev pub invariant-loop-target : goal.invariant-loop-target
invariant-loop-target l = l.prepared.items ≡ take l.target-index l.targets
