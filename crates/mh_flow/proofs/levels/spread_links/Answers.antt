use Rattle.std.proofs.Common.{◌≡◌, length, arith}
use Rattle.mh_flow.proofs.Spreading.{links_spread_on, links_all, IsLinksSpread}
use Rattle.mh_flow.proofs.levels.spread_links.Goals as goal

pub loop-link-preserved : goal.loop-link-preserved
loop-link-preserved c =
    links_spread_on _ _ _ _ _ _ _ _ _ _ c.loop-link.invariant c.in_ok-spread_link.ensures.levels c.in_ok-spread_link.ensures.spread c.in_ok-spread_link.ensures.settled

pub returns-clause-settled : goal.returns-clause-settled
returns-clause-settled c =
    let whole : c.loop-link.link-index ≡ length c.args.from.now = omega (arith, c.loop-link-test.false, c.loop-link.auto.link-index-end) in
    let done : IsLinksSpread c.args.rows.now c.args.gain_left.now c.args.links.now c.args.points.now c.loop-link.points c.args.from.now c.loop-link.lowered.items (length c.args.from.now) =
    rw whole at c.loop-link.invariant in
    links_all _ _ _ _ _ _ _ done c.requires.waiting
