use Rattle.std.proofs.Common.{ap, ◌∙◌, subst}
use Rattle.std.proofs.lemmas.Result.{err_from_is_err_and}
use Rattle.std.specs.Io.KnownBytes.{Appends}
use Rattle.mh_core.specs.Legal.{Setting}
use Rattle.mh_site.specs.Defined.{DefinitionData}
use Rattle.mh_text.specs.Bytes.{AppendsFront}
use Rattle.mh_text.specs.Lines.{line_of}
use Rattle.mh_text.specs.Steps.{Told}
use Rattle.mh_text.proofs.streams.run.write_step.Goals as goal

pub returns-in_err-write_line-clause-step : goal.returns-in_err-write_line-clause-step
returns-in_err-write_line-clause-step g c =
    let same = c.definition-definition.ensures.value ∙ (c.book.ensures.definition ∙ ap (λ (x : Setting). x.definition) c.answer-reply.ensures.setting) in
    let p = err_from_is_err_and c.from_residual.result c.from_residual.ensures.1 in
    let line = c.in_err-write_line.ensures.line in
    let told : Told = (c.number-named.result, c.answer-reply.result) in
    let front = subst (λ (d : DefinitionData). AppendsFront (g.W.Write.contents c.args.writer.now.inner) (g.W.Write.contents c.write_line.new.writer.inner) (line_of d told)) same line.1 in
    rw (p.1, p.2) (told, (c.number-named.ensures.value, c.answer-reply.ensures.step), (line.0, front), (c.in_err-write_line.ensures.spared, tt))

pub returns-clause-step : goal.returns-clause-step
returns-clause-step g c =
    let same = c.definition-definition.ensures.value ∙ (c.book.ensures.definition ∙ ap (λ (x : Setting). x.definition) c.answer-reply.ensures.setting) in
    let told : Told = (c.number-named.result, c.answer-reply.result) in
    let line = subst (λ (d : DefinitionData). Appends (g.W.Write.contents c.args.writer.now.inner) (g.W.Write.contents c.write_line.new.writer.inner) (line_of d told)) same c.in_ok-write_line.ensures.line in
    (told, (c.number-named.ensures.value, c.answer-reply.ensures.step), line, (tt, c.refusal_of.ensures.value))
