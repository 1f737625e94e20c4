use Rattle.std.proofs.Common.{◌≡◌, ◌*◌, ◌≤◌, arith}
use Rattle.std.proofs.Math.Nat.{mul-le-mul_left}
use Rattle.mh_network.specs.Problems.{cost_of, sum_of_costs}
use Rattle.mh_sweep.proofs.Amounts.{cost_within}
use Rattle.mh_sweep.proofs.Numbering.{num}
use Rattle.mh_sweep.proofs.scaling.block_costs.Goals as goal

pub overflow_mul-from : goal.overflow_mul-from
overflow_mul-from c =
    let p = num c.args.points.now c.loop-point.point-index in
    let within : cost_of c.args.problem.now p ≤ sum_of_costs c.args.problem.now =
    cost_within c.args.problem.now p (c.requires.inside c.loop-point.point-index 0 c.loop-point-test.true) in
    let times : c.args.scale * cost_of c.args.problem.now p ≤ c.args.scale * sum_of_costs c.args.problem.now = mul-le-mul_left c.args.scale within in
    let same : c.from.result * c.cost.result ≡ c.args.scale * cost_of c.args.problem.now p = λ i. c.from.ensures i * c.cost.ensures.value i in
    omega (arith, times, same, c.requires.costs)
