use Rattle.std.proofs.Common.{◌+◌, ◌-◌, ◌*◌, ◌≤◌}
use Rattle.mh_code.specs.PieceOf.{routine_of}
use Rattle.mh_code.specs.inner.Runs.{weight}
use Rattle.mh_run.specs.inner.Runs.{GoesOn, most_own}
use Rattle.mh_run.proofs.forwarding.reach.Given as goal
use Rattle.mh_tree.specs.Limits.{most_nodes}
use Rattle.mh_tree.specs.Sites.{setting}

-- each tree below leaves room for the steps of those below it
abbrev pub invariant-loop-site : goal.invariant-loop-site
invariant-loop-site l =
    (l.left.depth ≤ 4)
    × GoesOn (setting 4 l.here.valid.now l.here.targets.now) l.arguments (routine_of l.piece) 0 (setting (4 - l.left.depth) l.here.valid.now l.here.targets.now) l.left.arguments.now (routine_of l.left.piece.now) l.left.total
    × (l.left.total + weight 0 (routine_of l.left.piece.now) + (4 - l.left.depth) * most_nodes ≤ most_own)

abbrev pub decreases-loop-site : goal.decreases-loop-site
decreases-loop-site l = 4 - l.left.depth
