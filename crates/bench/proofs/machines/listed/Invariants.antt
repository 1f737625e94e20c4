use Rattle.std.proofs.Common.{◌≡◌, take}
use Rattle.bench.proofs.machines.listed.Given as goal

abbrev pub invariant-loop-argument : goal.invariant-loop-argument
invariant-loop-argument l = l.values.items ≡ take l.argument-index l.arguments
