use Rattle.std.proofs.Common.{◌<◌, length, arith}
use Rattle.mh_network.specs.Laws.Members.{all_members}
use Rattle.mh_network.proofs.Parted.{ascending_few, part_is_problem}
use Rattle.mh_network.proofs.problem.Problem.part.Goals as goal

pub set_places-requires-clause-inside : goal.set_places-requires-clause-inside
set_places-requires-clause-inside c =
    rw (c.as_slice.ensures.value, c.requires.room)
    (all_members (λ p. p < length c.args.self.now.costs) c.args.part.now.points c.requires.part.points_in)

pub set_places-requires-clause-few : goal.set_places-requires-clause-few
set_places-requires-clause-few c =
    rw c.as_slice.ensures.value
    (let few = ascending_few c.args.part.now.points (length c.args.self.now.costs) c.requires.part.points c.requires.part.points_in in
    omega (arith, few, c.points.ensures.problem.points))

pub part_costs-requires : goal.part_costs-requires
part_costs-requires c =
    record { inside = rw c.as_slice-2.ensures.value (all_members (λ p. p < length c.args.self.now.costs) c.args.part.now.points c.requires.part.points_in) }

pub made-requires : goal.made-requires
made-requires c =
    record { problem = rw (c.in_ok-rows.ensures.value, c.in_ok-costs.ensures.value, c.as_slice-2.ensures.value) (part_is_problem c.args.self.now c.args.part.now c.requires.part c.points.ensures.problem) }
