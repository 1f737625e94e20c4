use Rattle.std.proofs.Common.{◌∙◌, ap, subst}
use Rattle.std.specs.Prelude.{IfErr}
use Rattle.mhlink_c.specs.DeskRenewals.{RefusesDeskRenewal, callers_of}
use Rattle.mhlink_c.specs.Desks.{HeldDeskState}
use Rattle.mhlink_c.specs.declared.desk_handle.MhlinkDesk.{MhlinkDesk}
use Rattle.mhlink_c.specs.declared.failure.Failure.{Failure}
use Rattle.mhlink_c.proofs.Statuses.{told_by}
use Rattle.mhlink_c.proofs.desk_renewing.mhlink_desk_renew.Goals as goal

pub returns-clause-refused : goal.returns-clause-refused
returns-clause-refused c some =
    let answer = c.renew-answer.result in
    let Tells : HeldDeskState → Failure → Type 0 = λ h. RefusesDeskRenewal h (callers_of c.args.callers.now) c.args.again.now c.args.hits in
    let desk = c.deref_mut.ensures.value ∙ (c.into_box-held.ensures.value ∙ ap (λ (k : MhlinkDesk). k.value) c.replace.ensures.value) in
    let told = subst (λ (h : HeldDeskState). IfErr answer (Tells h)) desk c.renew-answer.ensures.refused in
    told_by answer c.status.result (Tells c.args.desk.now.value) c.status.ensures.ok c.status.ensures.status told some
