use Rattle.std.proofs.Common.{refl, subst, List, ℕ}
use Rattle.mh_base.specs.Tests.{Refuses}
use Rattle.mh_network.specs.declared.link_row.LinkRow.{LinkRow}
use Rattle.mh_network.specs.Problems.{large_tests}
use Rattle.mh_profile.proofs.profile.Profile.into_problem.Goals as goal

pub returns-in-Err-clause-refused : goal.returns-in-Err-clause-refused
returns-in-Err-clause-refused c =
    let links = subst (λ (rows : List LinkRow). Refuses (large_tests rows c.into_vec-costs.result.items) c.in-Err.cause) c.into_vec-rows.ensures.value c.in-Err.ensures.refused in
    let both = subst (λ (costs : List ℕ). Refuses (large_tests c.args.self.links costs) c.in-Err.cause) c.into_vec-costs.ensures.value links in
    (c.in-Err.cause, both, refl)
