use Rattle.mh_core.specs.inner.Tables.{row_in}
use Rattle.mh_core.specs.Laws.Numbered.{more_numbers}
use Rattle.mh_core.proofs.problem.make_rows.Goals as goal

pub loop-link-preserved : goal.loop-link-preserved
loop-link-preserved c =
    more_numbers (row_in c.args.definition.now c.args.totals.now c.args.valid.now) c.loop-link.link _ _ _ c.loop-link.invariant c.in_ok-make_row.ensures.value c.in_ok-push.ensures.items
