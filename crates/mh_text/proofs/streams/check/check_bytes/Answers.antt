use Rattle.std.proofs.lemmas.Result.{err_from_is_err_and}
use Rattle.mh_json.specs.Inputs.{json_of_input}
use Rattle.mh_text.proofs.Claims.{found_in, unwritten}
use Rattle.mh_text.proofs.streams.check.check_bytes.Goals as goal

pub returns-in_err-write_verdict-clause-failed : goal.returns-in_err-write_verdict-clause-failed
returns-in_err-write_verdict-clause-failed g c =
    let p = err_from_is_err_and c.from_residual-in_err-write_verdict.result c.from_residual-in_err-write_verdict.ensures.1 in
    let found = found_in _ _ _ c.in_ok-verdict.verdict c.in_ok-claim.ensures.ok c.in_ok-verdict.ensures.found in
    rw (p.1, p.2) (unwritten json_of_input _ _ _ _ _ _ c.in_ok-verdict.verdict found c.in_err-write_verdict.ensures.line)

pub returns-clause-ok : goal.returns-clause-ok
returns-clause-ok g c = (found_in _ _ _ c.in_ok-verdict.verdict c.in_ok-claim.ensures.ok c.in_ok-verdict.ensures.found, c.in_ok-write_verdict.ensures.line)
