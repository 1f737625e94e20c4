use Rattle.std.proofs.Common.{◌<◌, length, arith}
use Rattle.mh_network.proofs.Grouped.{put_point}
use Rattle.mh_network.proofs.grouping.add_points.Goals as goal

pub loop-number-preserved : goal.loop-number-preserved
loop-number-preserved c =
    let inside : c.loop-number.number < length c.args.problem.now.costs = omega (arith, c.loop-number-test.true, c.points-number-end.ensures.count) in
    put_point _ _ _ _ _ _ _ c.points-number-end.ensures.problem c.requires.labels inside c.loop-number.invariant c.in_ok-add_point.ensures.value
