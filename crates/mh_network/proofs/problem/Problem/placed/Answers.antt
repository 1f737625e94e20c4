use Rattle.std.proofs.Common.{inl}
use Rattle.std.proofs.lemmas.Result.{err_from_is_err_and}
use Rattle.mh_base.specs.Limits.{most_needs}
use Rattle.mh_network.specs.Limits.{most_links, most_points}
use Rattle.mh_network.proofs.Keeping.{kept_problem}
use Rattle.mh_network.proofs.Placing.{unplaced}
use Rattle.mh_network.proofs.problem.Problem.placed.Goals as goal

pub invariant_of-result : goal.invariant_of-result
invariant_of-result c = kept_problem _ _ _ _ c.in_ok-test.ensures.value c.in_ok-rows.ensures.value c.in_ok-costs.ensures.value

pub returns-in_err-test-clause-refused : goal.returns-in_err-test-clause-refused
returns-in_err-test-clause-refused c =
    let p = err_from_is_err_and c.from_residual.result c.from_residual.ensures.1 in
    rw (p.1, p.2) (inl (unplaced most_links most_points most_needs c.args.rows.now c.args.costs.now _ c.in_err-test.ensures.value))
