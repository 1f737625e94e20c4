use Rattle.std.proofs.Common.{subst}
use Rattle.std.proofs.lemmas.Result.{err_from_is_err_and}
use Rattle.mh_core.specs.Books.{MayRefuse}
use Rattle.mh_core.specs.declared.record.Record.TheVariants.{Snapped}
use Rattle.mhlink_c.specs.Desks.{HeldDeskState}
use Rattle.mhlink_c.proofs.desk.HeldDesk.snapshot.Goals as goal

pub returns-in_err-snapshot-clause-refused : goal.returns-in_err-snapshot-clause-refused
returns-in_err-snapshot-clause-refused c =
    let p = err_from_is_err_and c.from_residual.result c.from_residual.ensures.1 in
    let told = c.in_err-snapshot.field-0.0 in
    let Tells : HeldDeskState → Type 0 = λ h. MayRefuse h.desk.book 0 Snapped told in
    rw p.1 (told, (p.2, subst Tells c.self.view_is c.in_err-snapshot.ensures.refused.refuses))
