use Rattle.std.proofs.Common.{◌≡◌, ℕ, List, Some, Result, Err, IfErr, sym, subst}
use Rattle.std.specs.Prelude.{string_bytes}
use Rattle.mh_text.specs.Bytes.{HasFailed}
use Rattle.mh_json.specs.declared.fault.Fault.{Fault}
use Rattle.mh_command.specs.Answers.{FailsIn, IsHelp}
use Rattle.mh_command.proofs.Works.{fails_end, help_whole, lines_fail}
use Rattle.mh_command.proofs.work.work_lines.Goals as goal

pub returns-in-Ok-clause-fails : goal.returns-in-Ok-clause-fails
returns-in-Ok-clause-fails g c =
    let old = g.W.Write.contents c.args.out.now.inner in
    let new = g.W.Write.contents c.work_on.new.out.inner in
    let B = HasFailed c.args.out.now.failures c.work_on.new.out.failures in
    let fails = subst (λ (bs : List ℕ). IfErr c.work_on.result.end (FailsIn c.args.asked (Some bs) old new ⊥ B)) c.deref.ensures.value c.work_on.ensures.fails in
    fails_end c.args.asked c.in-Ok.input.items (g.R.Read.remaining c.args.reader.now.inner) old new (HasFailed c.args.reader.now.failures c.keep_lines.new.reader.failures) B
    c.work_on.result.end c.in-Ok.ensures.ok fails

pub returns-in-Ok-clause-help : goal.returns-in-Ok-clause-help
returns-in-Ok-clause-help g c =
    let end = c.work_on.result.end in
    let refused = c.work_on.result.refused.items in
    let help = string_bytes c.work_on.result.help in
    let helped = subst (λ (bs : List ℕ). IsHelp c.args.asked (Some bs) end refused help) c.deref.ensures.value c.work_on.ensures.help in
    help_whole c.args.asked c.in-Ok.input.items (g.R.Read.remaining c.args.reader.now.inner) end refused help c.in-Ok.ensures.ok helped

pub returns-in-Err-clause-fails : goal.returns-in-Err-clause-fails
returns-in-Err-clause-fails g c =
    let old = g.W.Write.contents c.args.out.now.inner in
    let A = HasFailed c.args.reader.now.failures c.keep_lines.new.reader.failures in
    let B = HasFailed c.args.out.now.failures c.args.out.now.failures in
    let fails = lines_fail c.args.asked (g.R.Read.remaining c.args.reader.now.inner) old A B c.in-Err.fault c.requires.formless c.in-Err.ensures.failed in
    let end : c.alone.result.end ≡ Err c.in-Err.fault = c.alone.ensures.end in
    subst (λ (r : Result ℕ Fault). IfErr r (FailsIn c.args.asked (g.R.Read.remaining c.args.reader.now.inner) old old A B)) (sym end) fails
