use Rattle.std.proofs.Common.{◌≡◌, ◌^◌, ◌-◌, min, take}
use Rattle.std.specs.List.{sum_by}
use Rattle.mh_network.specs.Problems.{kept_gain}
use Rattle.mh_network.proofs.row_rules.gains_fit.Given as goal

abbrev pub invariant-loop-row : goal.invariant-loop-row
invariant-loop-row l = l.sum ≡ min (sum_by kept_gain (take l.row-index l.rows)) (2 ^ 64 - 1)
