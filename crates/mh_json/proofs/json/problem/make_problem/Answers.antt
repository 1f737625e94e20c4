use Rattle.mh_json.proofs.ProblemPlaces.{misfits_stand}
use Rattle.mh_json.proofs.json.problem.make_problem.Goals as goal

pub returns-clause-placed : goal.returns-clause-placed
returns-clause-placed c =
    misfits_stand c.placed.result _ c.args.rows.now.links _ c.args.rows.now.costs c.as_slice-links.ensures.value c.as_slice-costs.ensures.value c.placed.ensures.placed
