use Rattle.std.proofs.Common.{inl, inr}
use Rattle.std.proofs.KnownBytes.{Keeps-refl}
use Rattle.std.proofs.lemmas.Result.{err_from_is_err_and}
use Rattle.mh_text.proofs.streams.planning.plan_value.Goals as goal

pub returns-in_err-problem-clause-failed : goal.returns-in_err-problem-clause-failed
returns-in_err-problem-clause-failed g c =
    let p = err_from_is_err_and c.from_residual.result c.from_residual.ensures.1 in
    rw (p.1, p.2) (inl (
      Keeps-refl _,
      elim c.in_err-problem.ensures.failed [
        | inl memory ↦ inl memory
        | inr fault ↦ inr (inr fault)
      ],
    ))

pub returns-in_err-lines-clause-failed : goal.returns-in_err-lines-clause-failed
returns-in_err-lines-clause-failed g c =
    let p = err_from_is_err_and c.from_residual-in_err-lines.result c.from_residual-in_err-lines.ensures.1 in
    rw (p.1, p.2) (inl (Keeps-refl _, inl c.in_err-lines.ensures.memory))

pub returns-in_err-write_lines-clause-failed : goal.returns-in_err-write_lines-clause-failed
returns-in_err-write_lines-clause-failed g c =
    let p = err_from_is_err_and c.from_residual-in_err-write_lines.result c.from_residual-in_err-write_lines.ensures.1 in
    rw (p.1, p.2) (inr (_, (c.in_ok-problem.problem, c.in_ok-problem.ensures.ok, c.in_ok-lines.ensures.planned), c.in_err-write_lines.ensures.lines))

pub returns-clause-ok : goal.returns-clause-ok
returns-clause-ok g c = (_, (c.in_ok-problem.problem, c.in_ok-problem.ensures.ok, c.in_ok-lines.ensures.planned), c.in_ok-write_lines.ensures.lines)
