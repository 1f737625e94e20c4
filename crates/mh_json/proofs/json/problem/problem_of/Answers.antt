use Rattle.mh_json.proofs.Problems.{not_made}
use Rattle.mh_json.proofs.json.problem.problem_of.Goals as goal

pub returns-in-Err-clause-value : goal.returns-in-Err-clause-value
returns-in-Err-clause-value c = not_made c.args.rows.now c.in-Err.misfit.fault c.from-in-Err.result (rw (← c.from.ensures) c.from-in-Err.ensures) c.in-Err.ensures.refused
