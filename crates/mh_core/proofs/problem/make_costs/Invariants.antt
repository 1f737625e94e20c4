use Rattle.std.proofs.Common.{◌≡◌, map, take}
use Rattle.mh_core.proofs.problem.make_costs.Given as goal

abbrev pub invariant-loop-point : goal.invariant-loop-point
invariant-loop-point l = l.costs.items ≡ map (λ p. p.cost) (take l.point-index l.definition.points)
