use Rattle.std.proofs.Common.{◌∙◌}
use Rattle.std.proofs.lemmas.Result.{err_from_is_err_and}
use Rattle.mh_network.specs.Limits.{greatest_count}
use Rattle.mh_network.proofs.Keeping.{kept_large}
use Rattle.mh_network.proofs.Placing.{given_refuse, unplaced}
use Rattle.mh_network.proofs.problem.Problem.placed_large.Goals as goal

pub invariant_of-result : goal.invariant_of-result
invariant_of-result c =
    kept_large _ _ _ _ (rw (c.deref.ensures.value, c.deref-2.ensures.value) at c.in_ok-test.ensures.value) (c.from_vec.ensures.value ∙ c.keep_rows.ensures.value) c.from_vec-2.ensures.value

pub returns-in_err-test-clause-refused : goal.returns-in_err-test-clause-refused
returns-in_err-test-clause-refused c =
    let p = err_from_is_err_and c.from_residual.result c.from_residual.ensures.1 in
    rw (p.1, p.2)
    (unplaced greatest_count greatest_count greatest_count c.args.rows.items c.args.costs.items _ (given_refuse _ _ _ _ _ c.deref.ensures.value c.deref-2.ensures.value c.in_err-test.ensures.value))

pub returns-in_err-test-clause-placed : goal.returns-in_err-test-clause-placed
returns-in_err-test-clause-placed c =
    let p = err_from_is_err_and c.from_residual.result c.from_residual.ensures.1 in
    rw (p.1, p.2) (given_refuse _ _ _ _ _ c.deref.ensures.value c.deref-2.ensures.value c.in_err-test.ensures.value)
