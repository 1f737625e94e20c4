use Rattle.std.proofs.Common.{◌≡◌}
use Rattle.mh_flow.specs.Run.{needs_below}
use Rattle.mh_flow.proofs.start.need_rows.Given as goal

abbrev pub invariant-loop-link : goal.invariant-loop-link
invariant-loop-link l = l.rows.items ≡ needs_below l.problem l.link
