use Rattle.std.proofs.lemmas.Result.{err_from_is_err_and}
use Rattle.mh_text.proofs.Claims.{plan_fails, problem_fails}
use Rattle.mh_text.proofs.streams.claim.read_value.Goals as goal

pub returns-in_err-problem-clause-failed : goal.returns-in_err-problem-clause-failed
returns-in_err-problem-clause-failed c =
    let p = err_from_is_err_and c.from_residual.result c.from_residual.ensures.1 in
    rw (p.1, p.2) (problem_fails _ _ _ c.in_err-problem.ensures.value)

pub returns-in_err-plan-clause-failed : goal.returns-in_err-plan-clause-failed
returns-in_err-plan-clause-failed c =
    let p = err_from_is_err_and c.from_residual-in_err-plan.result c.from_residual-in_err-plan.ensures.1 in
    rw (p.1, p.2) (plan_fails _ _ _ _ c.in_ok-problem.ensures.value c.in_err-plan.ensures.value)
