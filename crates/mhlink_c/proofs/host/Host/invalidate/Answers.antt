use Rattle.std.proofs.Common.{ℕ, List, inr, subst}
use Rattle.std.proofs.lemmas.Result.{err_from_is_err_and}
use Rattle.mh_core.specs.Books.{MayRefuse}
use Rattle.mh_core.specs.declared.record.Record.TheVariants.{Invalidated}
use Rattle.mhlink_c.specs.Hosts.{HostState}
use Rattle.mhlink_c.proofs.host.Host.invalidate.Goals as goal

pub returns-in_err-invalidate-clause-refused : goal.returns-in_err-invalidate-clause-refused
returns-in_err-invalidate-clause-refused c =
    let p = err_from_is_err_and c.from_residual-in_err-invalidate.result c.from_residual-in_err-invalidate.ensures.1 in
    let told = c.in_err-invalidate.field-0.0 in
    let Tells : HostState → Type 0 = λ h. MayRefuse h.runtime.book 0 (Invalidated c.args.points.now) told in
    let Names : List ℕ → Type 0 = λ points. MayRefuse c.self.inside.runtime.book 0 (Invalidated points) told in
    let named = subst Names c.in_ok-points.ensures.value c.in_err-invalidate.ensures.refused.refuses in
    rw p.1 (inr (told, (p.2, subst Tells c.self.view_is named)))
