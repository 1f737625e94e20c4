use Rattle.mh_json.specs.Inputs.{json_of_input}
use Rattle.mh_text.proofs.ProblemInputs.{is_problem, is_fault}
use Rattle.mh_text.proofs.streams.planning.read_bytes.Goals as goal

pub returns-clause-ok : goal.returns-clause-ok
returns-clause-ok c = is_problem json_of_input c.args.input.now c.read_problem.result c.read_problem.ensures.value

pub returns-clause-failed : goal.returns-clause-failed
returns-clause-failed c = is_fault json_of_input c.args.input.now c.read_problem.result c.read_problem.ensures.value
