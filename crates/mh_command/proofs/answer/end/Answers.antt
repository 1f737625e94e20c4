use Rattle.std.proofs.Common.{◌≡◌, inr, ◌∙◌, ap, subst, ℕ, List}
use Rattle.std.specs.Prelude.{string_bytes}
use Rattle.mh_json.specs.Gives.{outside}
use Rattle.mh_json.specs.declared.fault.Fault.{Fault}
use Rattle.mh_json.specs.declared.fault.TextFault.TheVariants.{WriteFailed}
use Rattle.mh_command.specs.Streams.{IsTold}
use Rattle.mh_command.proofs.answer.end.Goals as goal

pub returns-in-Err-flush-clause-done : goal.returns-in-Err-flush-clause-done
returns-in-Err-flush-clause-done g c =
    let same : c.from.result ≡ outside WriteFailed = c.from.ensures ∙ ap outside c.in-Err-flush.ensures.fault in
    let text : c.as_str-help.result.now ≡ string_bytes c.args.outcome.now.help = c.as_str-help.ensures.value in
    let told = subst (λ (f : Fault). IsTold (g.E.Write.contents c.args.err.now.inner) (g.E.Write.contents c.tell.new.err.inner) c.args.err.now.failures c.tell.new.err.failures c.as_str-help.result.now c.tell.result f) same c.tell.ensures.told in
    let with_text = subst (λ (t : List ℕ). IsTold (g.E.Write.contents c.args.err.now.inner) (g.E.Write.contents c.tell.new.err.inner) c.args.err.now.failures c.tell.new.err.failures t c.tell.result (outside WriteFailed)) text told in
    rw c.in-Ok.is (inr (with_text, c.in-Err-flush.ensures.failed))
