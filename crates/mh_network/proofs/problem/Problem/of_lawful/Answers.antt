use Rattle.std.proofs.Common.{◌∙◌}
use Rattle.mh_network.proofs.Keeping.{kept_problem}
use Rattle.mh_network.proofs.problem.Problem.of_lawful.Goals as goal

pub invariant_of-result : goal.invariant_of-result
invariant_of-result c = kept_problem _ _ _ _ c.requires.passes (c.from_vec.ensures.value ∙ c.keep_rows.ensures.value) c.from_vec-2.ensures.value
