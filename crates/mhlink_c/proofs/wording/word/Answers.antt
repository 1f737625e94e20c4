use Rattle.std.proofs.Common.{◌≡◌, ◌∙◌, Some, subst}
use Rattle.std.specs.Prelude.{IfSome}
use Rattle.mhlink_c.specs.Wording.{words_of}
use Rattle.mhlink_c.proofs.Words.{copied, too_short, with_some_part}
use Rattle.mhlink_c.proofs.wording.word.Goals as goal

pub returns-clause-told : goal.returns-clause-told
returns-clause-told c =
    let words = c.in_ok-words.words.now in
    let is : words_of c.args.status ≡ Some words = subst (λ o. IfSome o (λ w. words_of c.args.status ≡ Some w.now)) c.in_ok-words.ensures.ok_part c.words_of.ensures.words in
    let bytes = c.as_bytes-2.ensures.value ∙ c.in_ok-told.ensures.ok ∙ with_some_part words c.args.part c.if-part-eq0.false in
    copied c.args.status c.args.part words c.as_bytes-2.result.now is bytes c.copy-2.result c.copy-2.new.count c.copy-2.new.buffer c.copy-2.ensures.copied

pub returns-clause-refused : goal.returns-clause-refused
returns-clause-refused c =
    let words = c.in_ok-words.words.now in
    let is : words_of c.args.status ≡ Some words = subst (λ o. IfSome o (λ w. words_of c.args.status ≡ Some w.now)) c.in_ok-words.ensures.ok_part c.words_of.ensures.words in
    let bytes = c.as_bytes-2.ensures.value ∙ c.in_ok-told.ensures.ok ∙ with_some_part words c.args.part c.if-part-eq0.false in
    too_short c.args.status c.args.part words c.as_bytes-2.result.now is bytes c.copy-2.result c.copy-2.new.count c.args.buffer.now c.copy-2.ensures.short
