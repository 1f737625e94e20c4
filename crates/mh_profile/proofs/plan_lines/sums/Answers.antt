use Rattle.std.proofs.Common.{◌<◌, All, length, subst, sym}
use Rattle.mh_profile.proofs.Amounts.{points_inside}
use Rattle.mh_profile.proofs.plan_lines.sums.Goals as goal

pub costs-cost-requires : goal.costs-cost-requires
costs-cost-requires c =
    let P = c.args.problem.now in
    record { inside = subst (All (λ p. p < length P.costs)) (sym c.as_slice-2.ensures.value) (points_inside P c.args.plan.now c.requires.problem c.requires.matching) }
