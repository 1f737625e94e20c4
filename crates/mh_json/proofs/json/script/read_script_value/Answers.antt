use Rattle.std.proofs.lemmas.Result.{err_from_is_err_and}
use Rattle.serde_json.specs.View.{view}
use Rattle.mh_json.proofs.Reached.{script_fails}
use Rattle.mh_json.proofs.json.script.read_script_value.Goals as goal

pub returns-in_err-steps-clause-value : goal.returns-in_err-steps-clause-value
returns-in_err-steps-clause-value c =
    let p = err_from_is_err_and c.from_residual-in_err-steps.result c.from_residual-in_err-steps.ensures.1 in
    rw (p.1, p.2) (script_fails (view c.args.value.now) c.in_ok-preamble.preamble _ c.in_ok-preamble.ensures.value c.in_err-steps.ensures.value)

pub returns-in_err-steps-clause-kind : goal.returns-in_err-steps-clause-kind
returns-in_err-steps-clause-kind c =
    let p = err_from_is_err_and c.from_residual-in_err-steps.result c.from_residual-in_err-steps.ensures.1 in
    rw (p.1, p.2) c.in_err-steps.ensures.kind
