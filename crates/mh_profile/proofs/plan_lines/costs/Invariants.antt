use Rattle.std.proofs.Common.{◌≡◌, ◌≤◌, ◌*◌, take}
use Rattle.std.specs.List.{sum_by}
use Rattle.mh_network.specs.Problems.{cost_of}
use Rattle.mh_profile.proofs.plan_lines.costs.Given as goal

-- each amount is below 2^64
abbrev pub invariant-loop-point : goal.invariant-loop-point
invariant-loop-point l = record {
  sum : l.sum ≡ sum_by (cost_of l.problem) (take l.point-index l.points);
  small : l.sum ≤ l.point-index * 18446744073709551615;
}
