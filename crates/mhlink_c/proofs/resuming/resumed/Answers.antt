use Rattle.std.proofs.Common.{ℕ, List, inr, subst}
use Rattle.std.proofs.lemmas.Result.{err_from_is_err_and}
use Rattle.mh_base.specs.Tests.{Refuses}
use Rattle.mh_core.specs.Resumptions.{resumption_tests}
use Rattle.mhlink_c.proofs.resuming.resumed.Goals as goal

pub returns-in_err-runtime-clause-refused : goal.returns-in_err-runtime-clause-refused
returns-in_err-runtime-clause-refused c =
    let p = err_from_is_err_and c.from_residual-in_err-runtime.result c.from_residual-in_err-runtime.ensures.1 in
    let told = c.in_err-runtime.field-0.0 in
    let Tells : List ℕ → Type 0 =
    λ points. Refuses (resumption_tests c.args.definition.now c.args.workers c.args.limits points c.args.earlier.totals.now) told in
    rw p.1 (inr (told, (p.2, subst Tells c.in_ok-invalid.ensures.value c.in_err-runtime.ensures.refused)))
