use Rattle.std.proofs.Common.{inl}
use Rattle.std.proofs.KnownBytes.{Keeps-refl}
use Rattle.std.proofs.lemmas.Result.{err_from_is_err_and}
use Rattle.serde_json.specs.View.{view}
use Rattle.mh_text.specs.Bytes.{HasFailed}
use Rattle.mh_text.proofs.Values.{run_failed, script_unread}
use Rattle.mh_text.proofs.streams.run.run_value.Goals as goal

pub returns-in_err-script-clause-failed : goal.returns-in_err-script-clause-failed
returns-in_err-script-clause-failed g c =
    let p = err_from_is_err_and c.from_residual.result c.from_residual.ensures.1 in
    rw (p.1, p.2) (inl (Keeps-refl _, script_unread (view c.args.value.now) _ c.in_err-script.ensures.value))

pub returns-clause-failed : goal.returns-clause-failed
returns-clause-failed g c =
    run_failed (view c.args.value.now) c.args.options c.in_ok-script.script c.in_ok-script.ensures.value (g.W.Write.contents c.args.writer.now.inner) (g.W.Write.contents c.run_script.new.writer.inner)
    (HasFailed c.args.writer.now.failures c.run_script.new.writer.failures) c.run_script.result c.run_script.ensures.failed
