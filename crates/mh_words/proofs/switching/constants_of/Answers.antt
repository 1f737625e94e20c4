use Rattle.std.proofs.Common.{◌≡◌, ◌+◌, [], ◌∷◌, ◌++◌, take, ap, sym, ◌∙◌, rules}
use Rattle.std.specs.Arc.{arc_value}
use Rattle.std.specs.Int.{w64}
use Rattle.std.specs.Int.RustNames.{FitsSigned}
use Rattle.std.proofs.lemmas.List.{map_more}
use Rattle.std.specs.declared.alloc.Global.{Global}
use Rattle.std.specs.declared.sync.Arc.{Arc}
use Rattle.mh_words.specs.RoutineOf.{constants, word_routine, word_routines}
use Rattle.mh_words.specs.declared.constant.Constant.{Constant as ConstantAnswer}
use Rattle.mh_words.specs.declared.piece.WordPiece.{WordPiece}
use Rattle.mh_words.specs.declared.piece.WordPiece.TheVariants as word
use Rattle.mh_words.specs.declared.word_source.WordSource.TheVariants.{Constant}
use Rattle.mh_words.proofs.Entries.{constants_pushed}
use Rattle.mh_words.proofs.Pieces.{word_of_answer}
use Rattle.mh_words.proofs.switching.constants_of.Goals as goal

pub loop-target-preserved : goal.loop-target-preserved
loop-target-preserved c =
    let ts = c.args.targets.now in
    let i = c.loop-target.target-index in
    let t = c.target-item.result in
    let w = c.in-Constant in
    let steps = c.in-Answer.steps in
    let cs = c.loop-target.answers.items in
    let fits : FitsSigned w64 w.word = search rules in
    let told : ConstantAnswer = record { word = w.word; steps = steps } in
    let items : c.push.new.self.items ≡ cs ++ told ∷ [] = search rules in
    let is : arc_value t ≡ word.Answer (Constant w.word) steps = sym c.deref.ensures ∙ c.in-Answer.is ∙ ap (λ s. word.Answer s steps) w.is in
    let more : word_routines (take (i + 1) ts) ≡ word_routines (take i ts) ++ word_routine (arc_value t) ∷ [] =
    map_more (λ (p : Arc WordPiece Global). word_routine (arc_value p)) ts i t c.loop-target-test.true
    ∙ ap (λ (p : Arc WordPiece Global). word_routines (take i ts) ++ word_routine (arc_value p) ∷ []) (sym c.target-item.is) in
    ap constants items ∙ constants_pushed cs told
    ∙ (λ j. c.loop-target.invariant j ++ sym (ap word_routine is ∙ word_of_answer (Constant w.word) steps) j ∷ [])
    ∙ sym more
