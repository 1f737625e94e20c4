use Rattle.std.proofs.Common.{rules, string_bytes}
use Rattle.mh_text.specs.Bytes.{HasFailed}
use Rattle.mh_json.specs.Inputs.{json_of_input}
use Rattle.mh_stress.proofs.Scripts.{err_of, input_none, stress_cut_short, told_of_a_script}
use Rattle.mh_stress.proofs.stress.stress_bytes.Goals as goal

pub returns-in_err-script-clause-script : goal.returns-in_err-script-clause-script
returns-in_err-script-clause-script g c = λ told.
    told_of_a_script json_of_input input_none (g.R.Read.remaining c.args.reader.now.inner) _ c.in_err-script.field-0.0 c.in_err-script.ensures.failed (search rules)

pub returns-clause-failed : goal.returns-clause-failed
returns-clause-failed g c =
    stress_cut_short json_of_input c.args.options (g.R.Read.remaining c.args.reader.now.inner) (g.W.Write.contents c.args.writer.now.inner) (g.W.Write.contents c.write_lines.new.writer.inner) c.in_ok-script.script (string_bytes c.in_ok-lines.lines) (HasFailed c.args.reader.now.failures c.read_script_from.new.reader.failures) (HasFailed c.args.writer.now.failures c.write_lines.new.writer.failures) c.write_lines.result
    c.in_ok-script.ensures.ok c.in_ok-lines.ensures.settled (err_of c.write_lines.result _ _ c.write_lines.ensures.lines)
