use Rattle.std.proofs.Common.{◌≡◌}
use Rattle.mh_network.specs.Problems.{cost_of}
use Rattle.mh_network.specs.Sums.{sum_below}
use Rattle.mh_sweep.proofs.totals.all_costs.Given as goal

abbrev pub invariant-loop-point : goal.invariant-loop-point
invariant-loop-point l = l.sum ≡ sum_below l.point (cost_of l.problem)
