use Rattle.std.proofs.Common.{◌≡◌, map}
use Rattle.mh_core.specs.Records.{numbers}
use Rattle.mh_core.specs.inner.Tables.{row_in}
use Rattle.mh_core.proofs.problem.make_rows.Given as goal

abbrev pub invariant-loop-link : goal.invariant-loop-link
invariant-loop-link l = l.rows.items ≡ map (row_in l.definition l.totals l.valid) (numbers l.link)
