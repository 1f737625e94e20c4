use Rattle.std.proofs.Common.{inr}
use Rattle.std.proofs.lemmas.Result.{err_from_is_err_and}
use Rattle.mh_profile.proofs.Streaming.{planned_in}
use Rattle.mh_profile.proofs.planning.plan_profile.Goals as goal

pub returns-in_err-write_lines-clause-failed : goal.returns-in_err-write_lines-clause-failed
returns-in_err-write_lines-clause-failed g c =
    let p = err_from_is_err_and c.from_residual-in_err-write_lines.result c.from_residual-in_err-write_lines.ensures.1 in
    let planned = planned_in c.args.options (g.R.Read.remaining c.args.reader.now.inner) c.in_ok-swept.swept.named _ c.in_ok-swept.ensures.ok c.in_ok-lines.ensures.planned in
    rw (p.1, p.2) (inr (_, planned, c.in_err-write_lines.ensures.lines))
