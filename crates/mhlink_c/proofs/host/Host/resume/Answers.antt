use Rattle.std.proofs.Common.{◌≡◌, ◌∙◌, ap, inl, inr, subst, sym}
use Rattle.std.proofs.lemmas.Result.{err_from_is_err_and}
use Rattle.mh_base.specs.Tests.{Refuses}
use Rattle.mh_core.specs.Limits.{LimitsData}
use Rattle.mh_core.specs.Resumptions.{IsResumed, resumption_tests}
use Rattle.mh_core.specs.Runtimes.{RuntimeState}
use Rattle.mh_core.specs.declared.resuming.ResumptionFault.{ResumptionFault}
use Rattle.mhlink_c.specs.Hosts.{HostState}
use Rattle.mhlink_c.specs.Opening.{limits_of}
use Rattle.mhlink_c.specs.Resumptions.{of_resumption}
use Rattle.mhlink_c.proofs.host.Host.resume.Goals as goal

pub returns-in_err-runtime-clause-refused : goal.returns-in_err-runtime-clause-refused
returns-in_err-runtime-clause-refused c =
    let p = err_from_is_err_and c.from_residual-in_err-runtime.result c.from_residual-in_err-runtime.ensures.1 in
    let d = c.in_ok-definition.field-0 in
    let Tells : LimitsData → Type 0 =
    λ l. (told : ResumptionFault) × ((c.in_err-runtime.field-0.0 ≡ of_resumption told) × Refuses (resumption_tests d.definition c.args.workers l c.args.earlier.invalid.now c.args.earlier.totals.now) told) in
    rw p.1 (elim c.in_err-runtime.ensures.refused [
      | inl memory ↦ inr (c.in_ok-limits.ensures.value.1, inl (inl (p.2 ∙ memory)))
      | inr told ↦
          let it = subst Tells c.in_ok-limits.ensures.value.0 told in
          inr (c.in_ok-limits.ensures.value.1, inr (d, (c.in_ok-definition.ensures.value, (it.0, (p.2 ∙ it.1.0, it.1.1)))))
    ])

pub returns-clause-resumed : goal.returns-clause-resumed
returns-clause-resumed c =
    let d = c.in_ok-definition.field-0 in
    let l = c.in_ok-limits.ensures.value in
    let R : LimitsData → RuntimeState → Type 0 = λ k r. IsResumed d.definition c.args.workers k c.args.earlier.invalid.now c.args.earlier.totals.now r in
    let resumed = subst (λ k. R k c.in_ok-runtime.runtime) l.0 c.in_ok-runtime.ensures.resumed in (
      d,
      (
        c.in_ok-definition.ensures.value,
        (
          l.1,
          record {
            runtime = subst (R (limits_of c.args.limits.now)) (sym (ap (λ (h : HostState). h.runtime) c.over.ensures.value)) resumed;
            scope = ap (λ (h : HostState). h.scope) c.over.ensures.value;
            given = ap (λ (h : HostState). h.given) c.over.ensures.value;
          },
        ),
      ),
    )
