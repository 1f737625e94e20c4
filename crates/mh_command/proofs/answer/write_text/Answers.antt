use Rattle.std.proofs.Common.{◌≡◌, ◌∙◌, subst, ℕ, List}
use Rattle.std.specs.Io.KnownBytes.{Appends}
use Rattle.mh_text.specs.Bytes.{AppendsFront, one_more}
use Rattle.mh_command.proofs.Beginnings.{always_on_err, flush_cut, help_cut, on_err, text_cut}
use Rattle.mh_command.proofs.answer.write_text.Goals as goal

pub returns-in_err-write_all-clause-cut : goal.returns-in_err-write_all-clause-cut
returns-in_err-write_all-clause-cut g c =
    let begun = subst (λ (bs : List ℕ). AppendsFront (g.W.Write.contents c.args.stream.now.inner) (g.W.Write.contents c.write_all.new.self.inner) bs) c.as_bytes.ensures.value c.in_err-write_all.ensures.begun in
    always_on_err c.from_residual.result _ (text_cut _ _ _ _ c.args.text.now c.args.help.now c.in_err-write_all.ensures.failed begun)

pub returns-in_err-write_all-2-clause-cut : goal.returns-in_err-write_all-2-clause-cut
returns-in_err-write_all-2-clause-cut g c =
    let written = subst (λ (bs : List ℕ). Appends (g.W.Write.contents c.args.stream.now.inner) (g.W.Write.contents c.write_all.new.self.inner) bs) c.as_bytes.ensures.value c.in_ok-write_all.ensures.ok in
    let begun = subst (λ (bs : List ℕ). AppendsFront (g.W.Write.contents c.write_all.new.self.inner) (g.W.Write.contents c.write_all-2.new.self.inner) bs) c.as_bytes-2.ensures.value c.in_err-write_all-2.ensures.begun in
    always_on_err c.from_residual-in_err-write_all-2.result _
    (help_cut _ _ _ _ _ _ c.args.text.now c.args.help.now c.in_ok-write_all.ensures.kept c.in_err-write_all-2.ensures.failed written begun)

pub returns-clause-cut : goal.returns-clause-cut
returns-clause-cut g c =
    let written = subst (λ (bs : List ℕ). Appends (g.W.Write.contents c.args.stream.now.inner) (g.W.Write.contents c.write_all.new.self.inner) bs) c.as_bytes.ensures.value c.in_ok-write_all.ensures.ok in
    let more = subst (λ (bs : List ℕ). Appends (g.W.Write.contents c.write_all.new.self.inner) (g.W.Write.contents c.write_all-2.new.self.inner) bs) c.as_bytes-2.ensures.value c.in_ok-write_all-2.ensures.ok in
    let same : c.write_all-2.new.self.failures ≡ c.args.stream.now.failures = c.in_ok-write_all-2.ensures.kept ∙ c.in_ok-write_all.ensures.kept in
    on_err c.flush.result (c.flush.new.self.failures ≡ one_more c.write_all-2.new.self.failures) _
    (flush_cut _ _ _ _ _ _ _ c.args.text.now c.args.help.now same written more c.flush.ensures.bytes) c.flush.ensures.failed
