use Rattle.mh_core.specs.Laws.ProblemRows.{rows_pass}
use Rattle.mh_core.proofs.problem.make_problem.Goals as goal

pub of_lawful-requires : goal.of_lawful-requires
of_lawful-requires c = record {
  passes =
      rw (c.in_ok-rows.ensures.value, c.in_ok-costs.ensures.value)
      (rows_pass c.args.definition.now c.args.totals.now c.args.valid.now c.requires.lawful c.requires.gains);
}
