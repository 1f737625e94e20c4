use Rattle.std.proofs.Common.{ℕ, List, inr, subst}
use Rattle.std.proofs.lemmas.Result.{err_from_is_err_and}
use Rattle.mh_base.specs.Tests.{Refuses}
use Rattle.mh_network.specs.Problems.{large_tests}
use Rattle.mh_network.specs.declared.link_row.LinkRow.{LinkRow}
use Rattle.mhlink_c.specs.Problems.{rows_of}
use Rattle.mhlink_c.proofs.planning.best_plan.Goals as goal

pub returns-in_err-problem-clause-refused : goal.returns-in_err-problem-clause-refused
returns-in_err-problem-clause-refused c =
    let p = err_from_is_err_and c.from_residual-in_err-problem.result c.from_residual-in_err-problem.ensures.1 in
    let fault = c.in_err-problem.field-0.0 in
    let Rows : List LinkRow → Type 0 = λ rows. Refuses (large_tests rows c.in_ok-from_slice.field-0.items) fault in
    let Costs : List ℕ → Type 0 = λ costs. Refuses (large_tests (rows_of c.args.needs.now c.args.links.now) costs) fault in
    let refuses = subst Costs c.in_ok-from_slice.ensures.items (subst Rows c.in_ok-rows.ensures.value c.in_err-problem.ensures.refused) in
    rw p.1 (inr (inr (c.in_ok-rows.ensures.there, (fault, (p.2, refuses)))))
