use Rattle.std.proofs.Common.{◌≡◌, ◌++◌, map, take}
use Rattle.mh_plan.specs.Joined.{whole_row}
use Rattle.mh_plan.proofs.joining.push_rows.Given as goal

abbrev pub invariant-loop-row : goal.invariant-loop-row
invariant-loop-row l = l.rows.items ≡ l.fn.rows.items ++ map (whole_row l.part) (take l.row-index l.flow)
