use Rattle.std.proofs.Common.{◌≡◌, ◌++◌, map, take, drop}
use Rattle.mh_network.specs.Problems.{kept_row}
use Rattle.mh_network.proofs.problem.keep_rows.Given as goal

abbrev pub invariant-loop-at : goal.invariant-loop-at
invariant-loop-at l = l.kept.items ≡ map kept_row (take l.at l.fn.rows.items) ++ drop l.at l.fn.rows.items
