use Rattle.std.proofs.Common.{◌≡◌}
use Rattle.mh_plan.specs.Joined.{joined, rows_of}
use Rattle.mh_plan.specs.inner.Shares.{run_at}
use Rattle.mh_plan.proofs.joining.join_rows.Given as goal

abbrev pub invariant-loop-part : goal.invariant-loop-part
invariant-loop-part l = l.rows.items ≡ joined (rows_of l.parts (run_at l.runs)) l.part
