use Rattle.std.proofs.Common.{inr}
use Rattle.std.proofs.lemmas.Result.{err_from_is_err_and}
use Rattle.mh_text.proofs.ProblemInputs.{planned_in, written_in}
use Rattle.mh_text.proofs.streams.planning.plan_bytes.Goals as goal

pub returns-in_err-write_lines-clause-failed : goal.returns-in_err-write_lines-clause-failed
returns-in_err-write_lines-clause-failed g c =
    let p = err_from_is_err_and c.from_residual-in_err-write_lines.result c.from_residual-in_err-write_lines.ensures.1 in
    let planned = planned_in c.args.options _ c.in_ok-problem.problem _ c.in_ok-problem.ensures.ok c.in_ok-lines.ensures.planned in
    rw (p.1, p.2) (inr (_, planned, c.in_err-write_lines.ensures.lines))

pub returns-clause-ok : goal.returns-clause-ok
returns-clause-ok g c = written_in c.args.options _ _ _ c.in_ok-problem.problem _ c.in_ok-problem.ensures.ok c.in_ok-lines.ensures.planned c.in_ok-write_lines.ensures.lines
