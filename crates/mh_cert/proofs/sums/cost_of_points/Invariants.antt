use Rattle.std.proofs.Common.{◌≡◌, take}
use Rattle.std.specs.List.{sum_by}
use Rattle.mh_network.specs.Problems.{cost_of}
use Rattle.mh_cert.proofs.sums.cost_of_points.Given as goal

abbrev pub invariant-loop-point : goal.invariant-loop-point
invariant-loop-point l = l.sum ≡ sum_by (cost_of l.problem) (take l.point-index l.points)
