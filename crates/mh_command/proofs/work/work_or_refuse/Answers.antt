use Rattle.std.proofs.Common.{◌≡◌, ◌⊎◌, List, ℕ, Some, Result, Ok, Err, IfErr, [], subst, sym}
use Rattle.std.specs.Prelude.{string_bytes}
use Rattle.mh_text.specs.Bytes.{HasFailed}
use Rattle.mh_json.specs.declared.fault.Fault.{Fault}
use Rattle.mh_json.specs.declared.refused.RefusedEvent.{RefusedEvent}
use Rattle.mh_explain.specs.Refused.{NamesRefused}
use Rattle.mh_command.specs.Answers.{FailsIn}
use Rattle.mh_command.proofs.Found.{found_fails, none_helps}
use Rattle.mh_command.proofs.Works.{known_helped}
use Rattle.mh_command.proofs.work.work_or_refuse.Goals as goal

pub returns-in-Some-clause-fails : goal.returns-in-Some-clause-fails
returns-in-Some-clause-fails g c =
    let old = g.W.Write.contents c.args.out.now.inner in
    let B = HasFailed c.args.out.now.failures c.args.out.now.failures in
    subst (λ (r : Result ℕ Fault). IfErr r (FailsIn c.args.asked (Some c.args.parsed.input.now) old old ⊥ B)) (sym c.beside.ensures.end)
    (found_fails c.args.asked c.args.parsed.input.now _ _ (c.findings_in-fault.ensures.findings c.args.parsed.input.now c.requires.parsed) c.in-Some.fault old ⊥ B c.in-Some.is)

pub returns-in-Ok-clause-help : goal.returns-in-Ok-clause-help
returns-in-Ok-clause-help g c =
    let bytes = c.args.parsed.input.now in
    let refused = c.in-Ok.field-0.refused.items in
    let helped = none_helps c.args.asked bytes _ _ (c.findings_in-fault.ensures.findings c.args.parsed.input.now c.requires.parsed) (Ok c.in-Ok.field-0.status) c.in_default.is in
    let (events, is, named) = c.with_refused.ensures.value in
    let known = subst (λ (k : List RefusedEvent). (events ≡ []) ⊎ NamesRefused k events) c.as_slice.ensures.value named in
    known_helped c.args.asked bytes c.in-Ok.field-0.status refused (string_bytes c.findings_in-fault.result.help) events (string_bytes c.with_refused.result) c.with_refused.ensures.unexplained helped is known

pub returns-in-Err-clause-help : goal.returns-in-Err-clause-help
returns-in-Err-clause-help g c =
    let helped = none_helps c.args.asked c.args.parsed.input.now _ _ (c.findings_in-fault.ensures.findings c.args.parsed.input.now c.requires.parsed) (Err c.in-Err.fault) c.in_default.is in
    rw (c.beside-in-Err.ensures.end, c.beside-in-Err.ensures.clear, c.beside-in-Err.ensures.help) helped
