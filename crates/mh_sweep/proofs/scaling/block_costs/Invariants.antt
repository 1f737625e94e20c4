use Rattle.std.proofs.Common.{◌≡◌, ◌*◌, map, take}
use Rattle.mh_network.specs.Problems.{cost_of}
use Rattle.mh_sweep.proofs.scaling.block_costs.Given as goal

abbrev pub invariant-loop-point : goal.invariant-loop-point
invariant-loop-point l = l.costs.items ≡ map (λ p. l.scale * cost_of l.problem p) (take l.point-index l.points)
