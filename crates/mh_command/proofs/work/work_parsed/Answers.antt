use Rattle.std.proofs.Common.{[], Some, rules, subst, sym}
use Rattle.std.proofs.lemmas.Result.{err_from_is_err_and}
use Rattle.serde_json.specs.View.{view}
use Rattle.mh_text.specs.Bytes.{HasFailed}
use Rattle.mh_command.specs.Answers.{FailsOn, WorksOn}
use Rattle.mh_command.specs.declared.request.Request.{Request}
use Rattle.mh_command.proofs.Parsed.{check_failed, check_worked, plan_failed, plan_worked, run_failed, run_worked, stress_failed, stress_worked}
use Rattle.mh_command.proofs.work.work_parsed.Goals as goal

pub returns-in_ok-run_value-in-Run-clause-works : goal.returns-in_ok-run_value-in-Run-clause-works
returns-in_ok-run_value-in-Run-clause-works g c =
    let bytes = c.args.parsed.input.now in
    let d = view c.args.parsed.value.now in
    let old = g.W.Write.contents c.args.out.now.inner in
    let new = g.W.Write.contents c.run_value.new.writer.inner in
    let refused = c.in_ok-run_value-in-Run.field-0.items in
    subst (λ (r : Request). WorksOn r (Some bytes) refused old new 0) (sym c.in-Run.is) (run_worked bytes d c.requires.parsed old new c.in-Run.options refused c.in_ok-run_value-in-Run.ensures.ok)

pub returns-in_err-run_value-in-Run-clause-fails : goal.returns-in_err-run_value-in-Run-clause-fails
returns-in_err-run_value-in-Run-clause-fails g c =
    let bytes = c.args.parsed.input.now in
    let d = view c.args.parsed.value.now in
    let old = g.W.Write.contents c.args.out.now.inner in
    let new = g.W.Write.contents c.run_value.new.writer.inner in
    let B = HasFailed c.args.out.now.failures c.run_value.new.writer.failures in
    let e = c.in_err-run_value-in-Run.field-0.0 in
    let p = err_from_is_err_and c.from_residual.result c.from_residual.ensures.1 in
    rw (p.1, p.2) (subst (λ (r : Request). FailsOn r (Some bytes) old new ⊥ B e) (sym c.in-Run.is) (run_failed bytes d c.requires.parsed old new B e c.in-Run.options c.in_err-run_value-in-Run.ensures.failed))

pub returns-in_ok-verdict-in-Check-clause-works : goal.returns-in_ok-verdict-in-Check-clause-works
returns-in_ok-verdict-in-Check-clause-works g c =
    let bytes = c.args.parsed.input.now in
    let d = view c.args.parsed.value.now in
    let old = g.W.Write.contents c.args.out.now.inner in
    let new = g.W.Write.contents c.check_value.new.writer.inner in
    let (found, written) = c.in_ok-verdict-in-Check.ensures.ok in
    let works = check_worked bytes d c.requires.parsed old new c.in_ok-verdict-in-Check.verdict c.status_of_verdict.result c.status_of_verdict.ensures.value found written in
    rw (c.of.ensures.status, c.of.ensures.clear) (subst (λ (r : Request). WorksOn r (Some bytes) [] old new c.status_of_verdict.result) (sym c.in-Check.is) works)

pub returns-in_err-verdict-in-Check-clause-fails : goal.returns-in_err-verdict-in-Check-clause-fails
returns-in_err-verdict-in-Check-clause-fails g c =
    let bytes = c.args.parsed.input.now in
    let d = view c.args.parsed.value.now in
    let old = g.W.Write.contents c.args.out.now.inner in
    let new = g.W.Write.contents c.check_value.new.writer.inner in
    let B = HasFailed c.args.out.now.failures c.check_value.new.writer.failures in
    let e = c.in_err-verdict-in-Check.field-0.0 in
    let p = err_from_is_err_and c.from_residual-in_err-verdict-in-Check.result c.from_residual-in_err-verdict-in-Check.ensures.1 in
    rw (p.1, p.2) (subst (λ (r : Request). FailsOn r (Some bytes) old new ⊥ B e) (sym c.in-Check.is) (check_failed bytes d c.requires.parsed old new B e c.in_err-verdict-in-Check.ensures.failed))

pub returns-in_ok-plan_value-in-Plan-clause-works : goal.returns-in_ok-plan_value-in-Plan-clause-works
returns-in_ok-plan_value-in-Plan-clause-works g c =
    let bytes = c.args.parsed.input.now in
    let d = view c.args.parsed.value.now in
    let old = g.W.Write.contents c.args.out.now.inner in
    let new = g.W.Write.contents c.plan_value.new.writer.inner in
    let works = plan_worked bytes d c.requires.parsed old new c.in-Plan.options c.in_ok-plan_value-in-Plan.ensures.ok in
    rw (c.of-in-Plan.ensures.status, c.of-in-Plan.ensures.clear) (subst (λ (r : Request). WorksOn r (Some bytes) [] old new 0) (sym c.in-Plan.is) works)

pub returns-in_err-plan_value-in-Plan-clause-fails : goal.returns-in_err-plan_value-in-Plan-clause-fails
returns-in_err-plan_value-in-Plan-clause-fails g c =
    let bytes = c.args.parsed.input.now in
    let d = view c.args.parsed.value.now in
    let old = g.W.Write.contents c.args.out.now.inner in
    let new = g.W.Write.contents c.plan_value.new.writer.inner in
    let B = HasFailed c.args.out.now.failures c.plan_value.new.writer.failures in
    let e = c.in_err-plan_value-in-Plan.field-0.0 in
    let p = err_from_is_err_and c.from_residual-in_err-plan_value-in-Plan.result c.from_residual-in_err-plan_value-in-Plan.ensures.1 in
    rw (p.1, p.2) (subst (λ (r : Request). FailsOn r (Some bytes) old new ⊥ B e) (sym c.in-Plan.is) (plan_failed bytes d c.requires.parsed old new B e c.in-Plan.options c.in_err-plan_value-in-Plan.ensures.failed))

pub returns-in_ok-stress_value-in-Stress-clause-works : goal.returns-in_ok-stress_value-in-Stress-clause-works
returns-in_ok-stress_value-in-Stress-clause-works g c =
    let bytes = c.args.parsed.input.now in
    let d = view c.args.parsed.value.now in
    let old = g.W.Write.contents c.args.out.now.inner in
    let new = g.W.Write.contents c.stress_value.new.writer.inner in
    let works = stress_worked bytes d c.requires.parsed old new c.in-Stress.options c.in_ok-stress_value-in-Stress.ensures.ok in
    rw (c.of-in-Stress.ensures.status, c.of-in-Stress.ensures.clear) (subst (λ (r : Request). WorksOn r (Some bytes) [] old new 0) (sym c.in-Stress.is) works)

pub returns-in_err-stress_value-in-Stress-clause-fails : goal.returns-in_err-stress_value-in-Stress-clause-fails
returns-in_err-stress_value-in-Stress-clause-fails g c =
    let bytes = c.args.parsed.input.now in
    let d = view c.args.parsed.value.now in
    let old = g.W.Write.contents c.args.out.now.inner in
    let new = g.W.Write.contents c.stress_value.new.writer.inner in
    let B = HasFailed c.args.out.now.failures c.stress_value.new.writer.failures in
    let e = c.in_err-stress_value-in-Stress.field-0.0 in
    let p = err_from_is_err_and c.from_residual-in_err-stress_value-in-Stress.result c.from_residual-in_err-stress_value-in-Stress.ensures.1 in
    rw (p.1, p.2) (subst (λ (r : Request). FailsOn r (Some bytes) old new ⊥ B e) (sym c.in-Stress.is) (stress_failed bytes d c.requires.parsed old new B e c.in-Stress.options c.in_err-stress_value-in-Stress.ensures.failed (λ is. c.in_err-stress_value-in-Stress.ensures.script (search rules))))
