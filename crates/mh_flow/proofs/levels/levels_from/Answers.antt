use Rattle.mh_flow.proofs.Starts.{start_path_levels, start_waiting}
use Rattle.mh_flow.proofs.levels.levels_from.Goals as goal

pub settle-requires-clause-levels : goal.settle-requires-clause-levels
settle-requires-clause-levels c =
    rw (c.deref_mut.ensures.value, c.deref_mut-2.ensures.value, c.in_ok-links.ensures.value, c.in_ok-points.ensures.value)
    (start_path_levels _ _ _ c.requires.links c.requires.points)

pub settle-requires-clause-waiting : goal.settle-requires-clause-waiting
settle-requires-clause-waiting c =
    rw (c.deref_mut.ensures.value, c.in_ok-links.ensures.value) (start_waiting _ _ _ _ c.requires.links c.in_ok-front.ensures.listed)
