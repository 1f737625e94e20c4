use Rattle.serde_json.specs.View.{view}
use Rattle.mh_json.proofs.Problems.{problem_is_read, problem_is_refused}
use Rattle.mh_json.proofs.json.problem.read_problem_value.Goals as goal

pub returns-in-Ok : goal.returns-in-Ok
returns-in-Ok c = record { value = problem_is_read (view c.args.value.now) c.in_ok-rows.rows _ c.in_ok-rows.ensures.value c.in-Ok.ensures.made }

pub returns : goal.returns
returns c = record {
  value =
      problem_is_refused (view c.args.value.now) c.in_ok-rows.rows c.in-Err.misfit c.misread_of_problem.result c.in_ok-rows.ensures.value c.in-Err.ensures.refused
      c.in-Err.ensures.placed c.misread_of_problem.ensures.value;
}
