use Rattle.std.proofs.Common.{◌∙◌, List, ℕ, inr, subst, sym}
use Rattle.std.specs.Io.KnownBytes.{Appends}
use Rattle.std.proofs.lemmas.Result.{err_from_is_err_and}
use Rattle.mh_text.proofs.streams.run.write_report.Goals as goal

pub returns-in_err-write_lines-clause-failed : goal.returns-in_err-write_lines-clause-failed
returns-in_err-write_lines-clause-failed g c =
    let p = err_from_is_err_and c.from_residual-in_err-write_lines.result c.from_residual-in_err-write_lines.ensures.1 in
    let (is, failed, (front, rest, left, split, begun)) = c.in_err-write_lines.ensures.lines in
    rw (p.1, p.2) (c.if-options.true, inr (is, failed, (front, rest, left, sym c.in_ok-report_lines.ensures.value ∙ split, begun)))

pub returns-in_ok-write_lines-clause-ok : goal.returns-in_ok-write_lines-clause-ok
returns-in_ok-write_lines-clause-ok g c =
    let old = g.W.Write.contents c.args.writer.now.inner in
    let new = g.W.Write.contents c.write_lines.new.writer.inner in
    rw c.if-options.true (subst (λ (t : List ℕ). Appends old new t) c.in_ok-report_lines.ensures.value c.in_ok-write_lines.ensures.lines)
