use Rattle.std.proofs.Common.{subst}
use Rattle.mh_core.specs.Books.{Legal}
use Rattle.mh_core.proofs.BestPlans.{published_matches, published_best}
use Rattle.mh_core.proofs.laws.published_plans_are_best.Goals as goal

pub returns : goal.returns
returns c =
    let b = c.args.book.now in
    let is = c.kept.ensures.book in
    record {
      matching = λ newer older n plan same. published_matches b.definition b.limits newer older n plan (subst (Legal b.definition b.limits) same is.legal);
      best = λ newer older n plan same. published_best b.definition b.limits newer older n plan is.definition is.limits (subst (Legal b.definition b.limits) same is.legal);
    }
