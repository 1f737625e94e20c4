use Rattle.std.proofs.Common.{◌<◌, length, arith}
use Rattle.mh_network.specs.Parts.Item.{link}
use Rattle.mh_network.specs.inner.Groups.{IsAdded, item_label}
use Rattle.mh_network.proofs.Grouped.{put_link}
use Rattle.mh_network.proofs.grouping.add_links.Goals as goal

pub loop-number-preserved : goal.loop-number-preserved
loop-number-preserved c =
    let inside : c.loop-number.number < length c.args.problem.now.links = omega (arith, c.loop-number-test.true, c.links-number-end.ensures.count) in
    let step : IsAdded c.loop-number.parts.items c.add_link.new.parts.items c.loop-number.owner c.add_link.new.owner (item_label c.args.problem.now c.args.labels.now (link c.loop-number.number)) (link c.loop-number.number) =
    rw c.link_label-label.ensures.value at c.in_ok-add_link.ensures.value in
    put_link _ _ _ _ _ _ _ c.links-number-end.ensures.problem c.requires.labels inside c.loop-number.invariant step
