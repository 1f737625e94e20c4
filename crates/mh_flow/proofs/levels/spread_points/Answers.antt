use Rattle.std.proofs.Common.{◌≡◌, length, arith}
use Rattle.mh_flow.proofs.Spreading.{points_spread_on, points_all, IsPointsSpread}
use Rattle.mh_flow.proofs.levels.spread_points.Goals as goal

pub loop-point-preserved : goal.loop-point-preserved
loop-point-preserved c =
    points_spread_on _ _ _ _ _ _ _ _ _ _ c.loop-point.invariant c.in_ok-spread_point.ensures.levels c.in_ok-spread_point.ensures.spread c.in_ok-spread_point.ensures.settled

pub returns-clause-settled : goal.returns-clause-settled
returns-clause-settled c =
    let whole : c.loop-point.point-index ≡ length c.args.from.now = omega (arith, c.loop-point-test.false, c.loop-point.auto.point-index-end) in
    let done : IsPointsSpread c.args.rows.now c.args.gain_left.now c.args.points.now c.args.links.now c.loop-point.links c.args.from.now c.loop-point.lowered.items (length c.args.from.now) =
    rw whole at c.loop-point.invariant in
    points_all _ _ _ _ _ _ _ done c.requires.waiting
