use Rattle.std.proofs.Common.{◌≤◌, suc, length, arith}
use Rattle.mh_network.specs.Problems.{gain_of}
use Rattle.mh_network.specs.Sums.{sum_below}
use Rattle.mh_network.specs.Laws.SumLaws.{sum_below-up}
use Rattle.mh_network.proofs.totals.all_gains.Goals as goal

pub overflow_add-sum : goal.overflow_add-sum
overflow_add-sum c =
    let more : sum_below (suc c.loop-link.link) (gain_of c.args.problem.now) ≤ sum_below (length c.args.problem.now.links) (gain_of c.args.problem.now) =
    sum_below-up (length c.args.problem.now.links) (suc c.loop-link.link) (gain_of c.args.problem.now) (omega arith) in
    omega (arith, c.links-link-end.ensures.problem.gains)
