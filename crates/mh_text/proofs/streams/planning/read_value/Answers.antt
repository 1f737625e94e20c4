use Rattle.std.proofs.Common.{Ok}
use Rattle.serde_json.specs.View.{view}
use Rattle.mh_text.proofs.ProblemInputs.{is_problem, is_fault}
use Rattle.mh_text.proofs.streams.planning.read_value.Goals as goal

pub returns-clause-ok : goal.returns-clause-ok
returns-clause-ok c = is_problem Ok (view c.args.value.now) c.read_problem_at.result c.read_problem_at.ensures.value

pub returns-clause-failed : goal.returns-clause-failed
returns-clause-failed c = is_fault Ok (view c.args.value.now) c.read_problem_at.result c.read_problem_at.ensures.value
