use Rattle.std.proofs.Common.{subst}
use Rattle.mh_network.specs.Problems.{ProblemData}
use Rattle.mh_core.specs.Plans.{Matches}
use Rattle.mh_core.specs.Selection.{IsLeast, member}
use Rattle.mhlink_c.proofs.books.best_plan_for.Goals as goal

pub returns-clause-best : goal.returns-clause-best
returns-clause-best c =
    let plan = c.in_ok-plan_alone.field-0 in
    let is = c.in_ok-problem.ensures.value in
    let MatchesIt : ProblemData → Type 0 = λ P. Matches P plan in
    let IsLeastOf : ProblemData → Type 0 = λ P. IsLeast P (member plan.links) in
    record {
      taken = c.in_ok-problem.ensures.taken;
      matching = subst MatchesIt is c.in_ok-plan_alone.ensures.matching;
      least = subst IsLeastOf is c.in_ok-plan_alone.ensures.least;
    }
