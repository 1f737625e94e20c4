use Rattle.std.proofs.Common.{◌≡◌, ◌^◌, ◌-◌, min, map}
use Rattle.std.specs.List.{sum_by}
use Rattle.mh_network.specs.Problems.{kept_gain}
use Rattle.mh_core.specs.Records.{numbers}
use Rattle.mh_core.specs.inner.Tables.{row_in}
use Rattle.mh_core.proofs.problem.gains_fit.Given as goal

abbrev pub invariant-loop-link : goal.invariant-loop-link
invariant-loop-link l = l.sum ≡ min (sum_by kept_gain (map (row_in l.definition l.totals l.valid) (numbers l.link))) (2 ^ 64 - 1)
