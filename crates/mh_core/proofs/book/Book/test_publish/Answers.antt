use Rattle.std.proofs.Common.{◌+◌, length}
use Rattle.std.proofs.lemmas.Result.{err_from_is_err_and}
use Rattle.mh_core.proofs.PlanTests.{plan_refused}
use Rattle.mh_core.proofs.book.Book.test_publish.Goals as goal

pub returns-in_err-test_plan-clause-refuses : goal.returns-in_err-test_plan-clause-refuses
returns-in_err-test_plan-clause-refuses c =
    let b = c.args.self.now in
    let p = err_from_is_err_and c.from_residual-in_err-test_plan.result c.from_residual-in_err-test_plan.ensures.1 in
    rw (p.1, p.2)
    (plan_refused b.definition b.limits (length b.records + c.args.calls) b.records c.args.snapshot c.args.plan.now _ _ _ c.in_ok-problem.ensures.taken c.in_ok-problem.ensures.value c.plan.ensures.value
    c.in_err-test_plan.ensures.refused)
