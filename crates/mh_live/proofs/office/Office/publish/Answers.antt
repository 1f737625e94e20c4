use Rattle.std.proofs.Common.{subst}
use Rattle.std.proofs.lemmas.Result.{err_from_is_err_and}
use Rattle.mh_core.specs.declared.record.Record.TheVariants.{Published}
use Rattle.mh_live.specs.Offices.{OfficeState}
use Rattle.mh_live.specs.Receipts.{IsLegalRefusal}
use Rattle.mh_live.proofs.Answering.{plain_refusal}
use Rattle.mh_live.proofs.office.Office.publish.Goals as goal

pub returns-in_err-reply-clause-refused : goal.returns-in_err-reply-clause-refused
returns-in_err-reply-clause-refused g c =
    let told = c.in_err-reply.field-0.0 in
    let e = Published c.args.snapshot c.args.plan in
    let p = err_from_is_err_and c.from_residual.result c.from_residual.ensures.1 in
    rw (p.1, p.2) (subst (λ (o : OfficeState). IsLegalRefusal o.book e told) c.self.view_is (plain_refusal c.self.inside.book e told c.in_err-reply.ensures.refused.refuses))
