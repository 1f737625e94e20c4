use Rattle.std.proofs.Common.{◌≡◌}
use Rattle.mh_network.specs.Problems.{gain_of}
use Rattle.mh_network.specs.Sums.{sum_below}
use Rattle.mh_network.proofs.totals.all_gains.Given as goal

abbrev pub invariant-loop-link : goal.invariant-loop-link
invariant-loop-link l = l.sum ≡ sum_below l.link (gain_of l.problem)
