use Rattle.std.proofs.Common.{◌≡◌, ◌<◌, ℕ, length}
use Rattle.mh_network.specs.Problems.{cost_of}
use Rattle.mh_flow.specs.Carried.{number_at}
use Rattle.mh_flow.proofs.start.costs.Given as goal

abbrev pub invariant-loop-point : goal.invariant-loop-point
invariant-loop-point l = (length l.costs.items ≡ l.point) × ((j : ℕ) → j < l.point → number_at l.costs.items j ≡ cost_of l.problem j)
