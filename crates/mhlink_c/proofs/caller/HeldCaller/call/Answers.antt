use Rattle.std.proofs.Common.{inr, subst, sym, ◌∙◌}
use Rattle.std.proofs.lemmas.Result.{err_from_is_err_and}
use Rattle.mh_base.specs.Tests.{Refuses}
use Rattle.mh_core.specs.Runtimes.{TakesNoMemory}
use Rattle.mh_share.specs.Callers.{call_tests}
use Rattle.mhlink_c.specs.Crossing.{AreValues}
use Rattle.mhlink_c.specs.Callers.{HeldCallerState}
use Rattle.mhlink_c.proofs.Statuses.{same_refusal}
use Rattle.mhlink_c.proofs.caller.HeldCaller.call.Goals as goal

pub returns-in_err-outcome-clause-refused : goal.returns-in_err-outcome-clause-refused
returns-in_err-outcome-clause-refused c =
    let p = err_from_is_err_and c.from_residual-in_err-outcome.result c.from_residual-in_err-outcome.ensures.1 in
    let told = c.in_err-outcome.field-0.0 in
    let a = c.as_slice-arguments.result.now in
    let are = subst (AreValues c.args.given.now c.args.texts.now) (sym c.as_slice-arguments.ensures.value) c.in_ok-read_values.ensures.values in
    let Tells : HeldCallerState → Type 0 = λ h. Refuses (call_tests h.caller c.args.site a) told in
    rw p.1 (inr (inr (a, (are, (told, (p.2, subst Tells c.self.view_is c.in_err-outcome.ensures.refused))))))

pub returns-in_err-outcome-clause-memory : goal.returns-in_err-outcome-clause-memory
returns-in_err-outcome-clause-memory c asks =
    let p = err_from_is_err_and c.from_residual-in_err-outcome.result c.from_residual-in_err-outcome.ensures.1 in
    let a = c.as_slice-arguments.result.now in
    let are = subst (AreValues c.args.given.now c.args.texts.now) (sym c.as_slice-arguments.ensures.value) c.in_ok-read_values.ensures.values in
    let Takes : HeldCallerState → Type 0 = λ h. TakesNoMemory h.caller.shown c.args.site a in
    rw p.1 (λ is. c.in_err-outcome.ensures.memory (subst Takes (sym c.self.view_is) (asks.1.1 a are)) (same_refusal _ _ (sym p.2 ∙ is)))
