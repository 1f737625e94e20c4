use Rattle.std.proofs.Common.{◌≡◌, ◌∙◌, ℕ, Some, Result, Err, IfErr, refl, sym, ap, subst}
use Rattle.std.specs.Prelude.{string_bytes}
use Rattle.mh_text.specs.Bytes.{HasFailed}
use Rattle.mh_json.specs.Gives.{outside}
use Rattle.mh_json.specs.declared.fault.Fault.{Fault}
use Rattle.mh_json.specs.declared.fault.InputFault.{InputFault}
use Rattle.mh_json.specs.declared.fault.TextFault.TheVariants.{Input}
use Rattle.mh_command.specs.Answers.{FailsIn}
use Rattle.mh_command.proofs.Found.{found_fails, found_helps, misread_found}
use Rattle.mh_command.proofs.work.work_read.Goals as goal

pub returns-in-Err-clause-fails : goal.returns-in-Err-clause-fails
returns-in-Err-clause-fails g c =
    let bytes = c.args.input.now in
    let old = g.W.Write.contents c.args.out.now.inner in
    let B = HasFailed c.args.out.now.failures c.args.out.now.failures in
    let found = misread_found c.args.asked c.args.form bytes c.in-Err.misread (string_bytes c.help_for_text-help.result) c.requires.formed c.requires.short c.in-Err.ensures.value c.help_for_text-help.ensures.unexplained c.help_for_text-help.ensures.memory in
    let fault : c.from-fault.result ≡ outside (Input c.in-Err.misread.fault) = c.from-fault.ensures ∙ ap (λ (k : InputFault). outside (Input k)) c.fault.ensures.value in
    let end : c.beside.result.end ≡ Err (outside (Input c.in-Err.misread.fault)) = c.beside.ensures.end ∙ ap (λ (e : Fault). Err e) fault in
    subst (λ (r : Result ℕ Fault). IfErr r (FailsIn c.args.asked (Some bytes) old old ⊥ B)) (sym end)
    (found_fails c.args.asked bytes _ _ found (outside (Input c.in-Err.misread.fault)) old ⊥ B refl)

pub returns-in-Err-clause-help : goal.returns-in-Err-clause-help
returns-in-Err-clause-help g c =
    let bytes = c.args.input.now in
    let found = misread_found c.args.asked c.args.form bytes c.in-Err.misread (string_bytes c.help_for_text-help.result) c.requires.formed c.requires.short c.in-Err.ensures.value c.help_for_text-help.ensures.unexplained c.help_for_text-help.ensures.memory in
    let fault : c.from-fault.result ≡ outside (Input c.in-Err.misread.fault) = c.from-fault.ensures ∙ ap (λ (k : InputFault). outside (Input k)) c.fault.ensures.value in
    let end : c.beside.result.end ≡ Err (outside (Input c.in-Err.misread.fault)) = c.beside.ensures.end ∙ ap (λ (e : Fault). Err e) fault in
    rw (end, c.beside.ensures.clear, c.beside.ensures.help) (found_helps c.args.asked bytes _ _ found (outside (Input c.in-Err.misread.fault)) refl)
