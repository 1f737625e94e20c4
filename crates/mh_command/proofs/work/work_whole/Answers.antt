use Rattle.std.proofs.Common.{◌≡◌, ◌≢◌, ◌∙◌, ℕ, List, None, Some, Result, Err, IfErr, sym, ap, subst}
use Rattle.std.specs.Prelude.{string_bytes}
use Rattle.mh_text.specs.Bytes.{HasFailed}
use Rattle.mh_json.specs.Gives.{outside}
use Rattle.mh_json.specs.declared.fault.Fault.{Fault}
use Rattle.mh_command.specs.Answers.{FailsIn, IsHelp}
use Rattle.mh_command.specs.Readings.{form_of}
use Rattle.mh_command.proofs.Works.{fails_end, help_whole, unread_fails}
use Rattle.mh_command.proofs.work.work_whole.Goals as goal

pub returns-in-Ok-clause-fails : goal.returns-in-Ok-clause-fails
returns-in-Ok-clause-fails g c =
    let old = g.W.Write.contents c.args.out.now.inner in
    let new = g.W.Write.contents c.work_read.new.out.inner in
    let B = HasFailed c.args.out.now.failures c.work_read.new.out.failures in
    let fails = subst (λ (bs : List ℕ). IfErr c.work_read.result.end (FailsIn c.args.asked (Some bs) old new ⊥ B)) c.deref.ensures.value c.work_read.ensures.fails in
    fails_end c.args.asked c.in-Ok.input.items (g.R.Read.remaining c.args.reader.now.inner) old new (HasFailed c.args.reader.now.failures c.read_input.new.reader.failures) B
    c.work_read.result.end c.in-Ok.ensures.ok fails

pub returns-in-Ok-clause-help : goal.returns-in-Ok-clause-help
returns-in-Ok-clause-help g c =
    let end = c.work_read.result.end in
    let refused = c.work_read.result.refused.items in
    let help = string_bytes c.work_read.result.help in
    let helped = subst (λ (bs : List ℕ). IsHelp c.args.asked (Some bs) end refused help) c.deref.ensures.value c.work_read.ensures.help in
    help_whole c.args.asked c.in-Ok.input.items (g.R.Read.remaining c.args.reader.now.inner) end refused help c.in-Ok.ensures.ok helped

pub returns-in-Err-clause-fails : goal.returns-in-Err-clause-fails
returns-in-Err-clause-fails g c =
    let old = g.W.Write.contents c.args.out.now.inner in
    let A = HasFailed c.args.reader.now.failures c.read_input.new.reader.failures in
    let B = HasFailed c.args.out.now.failures c.args.out.now.failures in
    let formed : form_of c.args.asked.request ≢ None = λ none. let bad = sym c.requires.formed ∙ none in cc in
    let fails = unread_fails c.args.asked old A B formed (g.R.Read.remaining c.args.reader.now.inner) c.in-Err.kind c.in-Err.ensures.kinds (λ is. c.in-Err.ensures.long (ap (λ k. Err k) is)) (λ is. c.in-Err.ensures.failed (ap (λ k. Err k) is)) in
    let end : c.alone.result.end ≡ Err (outside c.in-Err.kind) = c.alone.ensures.end ∙ ap (λ (e : Fault). Err e) c.from.ensures in
    subst (λ (r : Result ℕ Fault). IfErr r (FailsIn c.args.asked (g.R.Read.remaining c.args.reader.now.inner) old old A B)) (sym end) fails
