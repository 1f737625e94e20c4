use Rattle.std.proofs.lemmas.Result.{err_from_is_err_and}
use Rattle.mh_profile.proofs.Claims.{take_fails}
use Rattle.mh_profile.proofs.claim.read_lines.Goals as goal

pub returns-in_err-take-clause-value : goal.returns-in_err-take-clause-value
returns-in_err-take-clause-value c =
    let p = err_from_is_err_and c.from_residual.result c.from_residual.ensures.1 in
    rw (p.1, p.2) (take_fails c.new.result c.args.lines.now _ c.new.ensures.value c.in_err-take.ensures.takes)
