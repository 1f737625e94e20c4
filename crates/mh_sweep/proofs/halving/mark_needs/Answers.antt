use Rattle.std.proofs.Common.{◌<◌, length, arith}
use Rattle.mh_network.specs.Laws.Members.{all_members}
use Rattle.mh_sweep.proofs.halving.mark_needs.Goals as goal

pub mark_points-requires-clause-inside : goal.mark_points-requires-clause-inside
mark_points-requires-clause-inside c =
    rw c.needs.ensures.value (all_members (λ p. p < length c.args.places.now) _ (λ p e. omega (arith, c.points.ensures.problem.in_range _ p e, c.requires.places.count)))
