use Rattle.std.proofs.Common.{◌≤◌, [], ap, arith, length, refl, sym}
use Rattle.std.proofs.lemmas.List.{append-nil}
use Rattle.tests_live.proofs.judged.judged.Goals as goal

pub returns : goal.returns
returns g c =
    let told = c.every_answer_is_right.ensures.headline in
    let is = c.in-Ok.ensures in
    let seen = c.call.new.self.seen in
    let r = c.args.office.now.book.records in
    let short : c.in-Ok.answer.front ≤ length c.args.office.now.published = omega (arith, c.if-len-answer.false, c.len.ensures.value, ap length c.front.ensures.value) in
    let at = told.calls seen c.args.site c.args.arguments.now c.in-Ok.answer [] is.answer is.passes.inside ([], append-nil seen) short (r, sym (append-nil r)) (seen, refl) in
    record { meaning = (at.past, at.stood, at.outcome) }
