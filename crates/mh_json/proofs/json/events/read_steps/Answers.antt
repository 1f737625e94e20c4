use Rattle.std.proofs.Common.{◌+◌, refl, ap, inl}
use Rattle.std.proofs.lemmas.Result.{err_from_is_err_and}
use Rattle.mh_json.specs.Gives.{at_place}
use Rattle.mh_json.proofs.Reached.{step_fails, reads_more}
use Rattle.mh_json.proofs.json.events.read_steps.Goals as goal

pub returns-in_err-step-clause-value : goal.returns-in_err-step-clause-value
returns-in_err-step-clause-value c =
    let p = err_from_is_err_and c.from_residual.result c.from_residual.ensures.1 in
    rw (p.1, p.2) (step_fails c.args.declared.now c.args.values.now c.loop-i.i (c.loop-i.i + 1) c.loop-i.steps.items c.index-values-i.result
    c.loop-i-test.true c.index-values-i.is refl c.loop-i.invariant _ c.in_err-step.ensures.value)

pub returns-in_err-push_step-clause-value : goal.returns-in_err-push_step-clause-value
returns-in_err-push_step-clause-value c =
    let p = err_from_is_err_and c.from_residual-in_err-push_step.result c.from_residual-in_err-push_step.ensures.1 in
    rw (p.1, p.2) (step_fails c.args.declared.now c.args.values.now c.loop-i.i (c.loop-i.i + 1) c.loop-i.steps.items c.index-values-i.result
    c.loop-i-test.true c.index-values-i.is refl c.loop-i.invariant _ (inl c.in_err-push_step.ensures.memory))

pub loop-i-preserved : goal.loop-i-preserved
loop-i-preserved c =
    rw c.in_ok-push_step.ensures.ok (reads_more c.args.declared.now c.args.values.now c.loop-i.i (c.loop-i.i + 1) c.loop-i.steps.items c.index-values-i.result
    c.loop-i-test.true c.index-values-i.is refl c.loop-i.invariant c.in_ok-step.step (ap (at_place (c.loop-i.i + 1)) c.in_ok-step.ensures.value))
