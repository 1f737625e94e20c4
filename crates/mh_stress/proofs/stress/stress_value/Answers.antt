use Rattle.std.proofs.Common.{inl, rules, string_bytes, Ok, Some}
use Rattle.std.proofs.KnownBytes.{Keeps-refl}
use Rattle.std.proofs.lemmas.Result.{err_from_is_err_and}
use Rattle.serde_json.specs.View.{view}
use Rattle.mh_text.specs.Bytes.{HasFailed}
use Rattle.mh_text.proofs.Values.{script_unread}
use Rattle.mh_stress.proofs.Scripts.{err_of, script_none, stress_cut_short, told_of_a_script}
use Rattle.mh_stress.proofs.stress.stress_value.Goals as goal

pub returns-in_err-script-clause-script : goal.returns-in_err-script-clause-script
returns-in_err-script-clause-script g c = λ told.
    told_of_a_script Ok script_none (Some (view c.args.value.now)) ⊥ c.in_err-script.field-0.0 (script_unread (view c.args.value.now) _ c.in_err-script.ensures.value) (search rules)

pub returns-in_err-script-clause-failed : goal.returns-in_err-script-clause-failed
returns-in_err-script-clause-failed g c =
    let p = err_from_is_err_and c.from_residual.result c.from_residual.ensures.1 in
    rw (p.1, p.2) (inl (Keeps-refl _, inl (script_unread (view c.args.value.now) _ c.in_err-script.ensures.value)))

pub returns-clause-failed : goal.returns-clause-failed
returns-clause-failed g c =
    stress_cut_short Ok c.args.options (Some (view c.args.value.now)) (g.W.Write.contents c.args.writer.now.inner) (g.W.Write.contents c.write_lines.new.writer.inner) c.in_ok-script.script (string_bytes c.in_ok-lines.lines) ⊥ (HasFailed c.args.writer.now.failures c.write_lines.new.writer.failures) c.write_lines.result
    c.in_ok-script.ensures.value c.in_ok-lines.ensures.settled (err_of c.write_lines.result _ _ c.write_lines.ensures.lines)
