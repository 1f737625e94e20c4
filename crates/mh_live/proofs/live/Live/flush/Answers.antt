use Rattle.std.proofs.Common.{subst}
use Rattle.std.proofs.lemmas.Result.{err_from_is_err_and}
use Rattle.mh_live.specs.Passes.{PassState}
use Rattle.mh_live.specs.Receipts.{IsFlushRefusal}
use Rattle.mh_live.proofs.Receiving.{flush_refusal_of}
use Rattle.mh_live.proofs.live.Live.flush.Goals as goal

pub returns-in_err-receipt-clause-refused : goal.returns-in_err-receipt-clause-refused
returns-in_err-receipt-clause-refused g c =
    let d = g.N.ListName.definition in
    let l = g.N.ListName.limits in
    let workers = g.N.ListName.workers in
    let fault = c.in_err-receipt.field-0.0 in
    let refusal = flush_refusal_of d l workers c.deref_mut.result.now c.pass.inside.ledger fault c.in_err-receipt.ensures.office c.in_err-receipt.ensures.totals c.in_err-receipt.ensures.refused in
    let p = err_from_is_err_and c.from_residual.result c.from_residual.ensures.1 in
    rw (p.1, p.2) (subst (λ (q : PassState). IsFlushRefusal d l workers q.ledger fault) c.pass.view_is refusal)
