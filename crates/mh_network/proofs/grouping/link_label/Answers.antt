use Rattle.std.proofs.Common.{length}
use Rattle.mh_network.proofs.Labelling.{needs_inside}
use Rattle.mh_network.proofs.grouping.link_label.Goals as goal

pub bounds-labels-first : goal.bounds-labels-first
bounds-labels-first c = needs_inside c.args.problem.now c.args.number (length c.args.labels.now) _ c.points-points.ensures.problem c.needs.ensures.value c.requires.labels.count 0 0 c.in-len1-up.len_at_least
