use Rattle.std.proofs.Common.{[], subst, sym}
use Rattle.mh_command.specs.Answers.{WorksOn}
use Rattle.mh_command.specs.declared.request.Request.{Request}
use Rattle.mh_command.proofs.Works.{check_works, plan_works, profile_check_works, profile_works, stress_works}
use Rattle.mh_command.proofs.work.work.Goals as goal

pub returns-in_ok-verdict-in-Check-clause-works : goal.returns-in_ok-verdict-in-Check-clause-works
returns-in_ok-verdict-in-Check-clause-works g c =
    let old = g.W.Write.contents c.args.out.now.inner in
    let input = g.R.Read.remaining c.args.reader.now.inner in
    let new = g.W.Write.contents c.check_bytes.new.writer.inner in
    let (found, written) = c.in_ok-verdict-in-Check.ensures.ok in
    subst (λ (r : Request). WorksOn r input [] old new c.status_of_verdict.result) (sym c.in-Check.is)
    (check_works old new input c.in_ok-verdict-in-Check.verdict c.status_of_verdict.result c.status_of_verdict.ensures.value found written)

pub returns-in_ok-verdict-in-CheckProfile-clause-works : goal.returns-in_ok-verdict-in-CheckProfile-clause-works
returns-in_ok-verdict-in-CheckProfile-clause-works g c =
    let old = g.W.Write.contents c.args.out.now.inner in
    let input = g.R.Read.remaining c.args.reader.now.inner in
    let new = g.W.Write.contents c.check_profile.new.writer.inner in
    let (found, written) = c.in_ok-verdict-in-CheckProfile.ensures.ok in
    subst (λ (r : Request). WorksOn r input [] old new c.status_of_verdict-in-CheckProfile.result) (sym c.in-CheckProfile.is)
    (profile_check_works old new input c.in_ok-verdict-in-CheckProfile.verdict c.status_of_verdict-in-CheckProfile.result c.status_of_verdict-in-CheckProfile.ensures.value found written)

pub returns-in_ok-plan_bytes-in-Plan-clause-works : goal.returns-in_ok-plan_bytes-in-Plan-clause-works
returns-in_ok-plan_bytes-in-Plan-clause-works g c =
    let old = g.W.Write.contents c.args.out.now.inner in
    let input = g.R.Read.remaining c.args.reader.now.inner in
    let new = g.W.Write.contents c.plan_bytes.new.writer.inner in
    subst (λ (r : Request). WorksOn r input [] old new 0) (sym c.in-Plan.is) (plan_works old new input c.in-Plan.options c.in_ok-plan_bytes-in-Plan.ensures.ok)

pub returns-in_ok-stress_bytes-in-Stress-clause-works : goal.returns-in_ok-stress_bytes-in-Stress-clause-works
returns-in_ok-stress_bytes-in-Stress-clause-works g c =
    let old = g.W.Write.contents c.args.out.now.inner in
    let input = g.R.Read.remaining c.args.reader.now.inner in
    let new = g.W.Write.contents c.stress_bytes.new.writer.inner in
    subst (λ (r : Request). WorksOn r input [] old new 0) (sym c.in-Stress.is) (stress_works old new input c.in-Stress.options c.in_ok-stress_bytes-in-Stress.ensures.ok)

pub returns-in_ok-plan_profile-in-Profile-clause-works : goal.returns-in_ok-plan_profile-in-Profile-clause-works
returns-in_ok-plan_profile-in-Profile-clause-works g c =
    let old = g.W.Write.contents c.args.out.now.inner in
    let input = g.R.Read.remaining c.args.reader.now.inner in
    let new = g.W.Write.contents c.plan_profile.new.writer.inner in
    subst (λ (r : Request). WorksOn r input [] old new 0) (sym c.in-Profile.is) (profile_works old new input c.in-Profile.options c.in_ok-plan_profile-in-Profile.ensures.ok)
