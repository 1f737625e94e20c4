use Rattle.std.proofs.Common.{of_calls}
use Rattle.std.proofs.lemmas.Result.{err_from_is_err_and}
use Rattle.mh_json.specs.Script.{events_of}
use Rattle.mh_json.proofs.Reached.{fails_first}
use Rattle.mh_json.proofs.json.script.read_placed_script.Goals as goal

pub returns-in_err-steps : goal.returns-in_err-steps
returns-in_err-steps c =
    let p = err_from_is_err_and c.from_residual-in_err-steps.result c.from_residual-in_err-steps.ensures.1 in
    record { value = rw (p.1, p.2, c.in_ok-preamble.ensures.value) (fails_first _ _ _ (c.in_err-steps.ensures.value (events_of c.in_ok-preamble.preamble.declared) (search of_calls))) }
