use Rattle.std.proofs.Common.{◌≤◌, suc, length, arith}
use Rattle.mh_network.specs.Problems.{cost_of}
use Rattle.mh_network.specs.Sums.{sum_below}
use Rattle.mh_network.specs.Laws.SumLaws.{sum_below-up}
use Rattle.mh_sweep.proofs.totals.all_costs.Goals as goal

pub overflow_add-sum : goal.overflow_add-sum
overflow_add-sum c =
    let more : sum_below (suc c.loop-point.point) (cost_of c.args.problem.now) ≤ sum_below (length c.args.problem.now.costs) (cost_of c.args.problem.now) =
    sum_below-up (length c.args.problem.now.costs) (suc c.loop-point.point) (cost_of c.args.problem.now) (omega arith) in
    omega (arith, c.points-point-end.ensures.problem.costs)
