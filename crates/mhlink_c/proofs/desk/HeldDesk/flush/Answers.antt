use Rattle.std.proofs.Common.{subst}
use Rattle.std.proofs.lemmas.Result.{err_from_is_err_and}
use Rattle.mh_share.specs.Desks.{RefusesFlush}
use Rattle.mhlink_c.specs.Callers.{HeldCallerState}
use Rattle.mhlink_c.specs.Desks.{HeldDeskState}
use Rattle.mhlink_c.proofs.desk.HeldDesk.flush.Goals as goal

pub returns-in_err-flush-clause-refused : goal.returns-in_err-flush-clause-refused
returns-in_err-flush-clause-refused c =
    let p = err_from_is_err_and c.from_residual.result c.from_residual.ensures.1 in
    let told = c.in_err-flush.field-0.0 in
    let Tells : HeldDeskState → Type 0 = λ h. RefusesFlush h.desk.book c.caller.inside.caller.ledger told in
    let TellsOf : HeldCallerState → Type 0 = λ k. RefusesFlush c.args.self.now.desk.book k.caller.ledger told in
    rw p.1 (told, (p.2, subst TellsOf c.caller.view_is (subst Tells c.self.view_is c.in_err-flush.ensures.refused)))
