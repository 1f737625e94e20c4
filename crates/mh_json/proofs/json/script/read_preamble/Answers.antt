use Rattle.std.proofs.Common.{of_calls}
use Rattle.std.proofs.lemmas.Result.{err_from_is_err_and}
use Rattle.mh_json.specs.Script.{definition_of, preamble_of, workers_of}
use Rattle.mh_json.proofs.Reached.{fails_first}
use Rattle.mh_json.proofs.json.script.read_preamble.Goals as goal

pub returns-in_err-workers : goal.returns-in_err-workers
unfolding preamble_of
returns-in_err-workers c =
    let p = err_from_is_err_and c.from_residual-in_err-workers.result c.from_residual-in_err-workers.ensures.1 in
    let declared = c.in_ok-declared.ensures.value definition_of (search of_calls) in
    record { value = rw (p.1, p.2, declared) (fails_first _ _ _ (c.in_err-workers.ensures.value workers_of (search of_calls))) }

pub returns-in_err-limits : goal.returns-in_err-limits
unfolding preamble_of
returns-in_err-limits c =
    let p = err_from_is_err_and c.from_residual-in_err-limits.result c.from_residual-in_err-limits.ensures.1 in
    let declared = c.in_ok-declared.ensures.value definition_of (search of_calls) in
    let workers = c.in_ok-workers.ensures.value workers_of (search of_calls) in
    record { value = rw (p.1, p.2, declared, workers) (fails_first _ _ _ c.in_err-limits.ensures.value) }
