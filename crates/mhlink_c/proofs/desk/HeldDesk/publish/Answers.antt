use Rattle.std.proofs.Common.{inr, subst}
use Rattle.std.proofs.lemmas.Result.{err_from_is_err_and}
use Rattle.mh_cert.specs.declared.plan.Plan.{Plan}
use Rattle.mh_core.specs.Books.{MayRefuse}
use Rattle.mh_core.specs.declared.record.Record.TheVariants.{Published}
use Rattle.mhlink_c.specs.Desks.{HeldDeskState}
use Rattle.mhlink_c.proofs.desk.HeldDesk.publish.Goals as goal

pub returns-in_err-publish-clause-refused : goal.returns-in_err-publish-clause-refused
returns-in_err-publish-clause-refused c =
    let p = err_from_is_err_and c.from_residual-in_err-publish.result c.from_residual-in_err-publish.ensures.1 in
    let told = c.in_err-publish.field-0.0 in
    let Tells : HeldDeskState → Type 0 = λ h. MayRefuse h.desk.book 0 (Published c.args.snapshot c.args.plan) told in
    let Of : Plan → Type 0 = λ plan. MayRefuse c.self.inside.desk.book 0 (Published c.args.snapshot plan) told in
    let of = subst Of c.in_ok-plan.ensures.value c.in_err-publish.ensures.refused.refuses in
    rw p.1 (inr (told, (p.2, subst Tells c.self.view_is of)))
