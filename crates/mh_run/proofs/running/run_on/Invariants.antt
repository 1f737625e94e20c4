use Rattle.std.proofs.Common.{[], ◌+◌, ◌≤◌}
use Rattle.mh_code.specs.Height.{height}
use Rattle.mh_code.specs.PieceOf.{routine_of}
use Rattle.mh_code.specs.inner.Runs.{weight}
use Rattle.mh_run.specs.inner.Levels.{IsOpen}
use Rattle.mh_run.specs.inner.Runs.{Leaves, most_own}
use Rattle.mh_run.proofs.running.run_on.Given as goal
use Rattle.mh_tree.specs.Sites.{setting}

abbrev pub ghost-go_on : goal.ghost-go_on
ghost-go_on g a = g.L.Lower.deep

abbrev pub ghost-finish : goal.ghost-finish
ghost-finish g a = g.L.Lower.deep

-- what the pieces so far have left to do
abbrev pub invariant-loop-answer : goal.invariant-loop-answer
invariant-loop-answer g l =
    IsOpen g.L.Lower.is_ready l.level
    × Leaves (setting g.L.Lower.deep l.here.valid.now l.here.targets.now) l.arguments [] (routine_of l.piece) l.before l.level.locals.items (routine_of l.node) (l.more + l.own)
    × (l.own + weight 0 (routine_of l.node) ≤ most_own)

abbrev pub decreases-loop-answer : goal.decreases-loop-answer
decreases-loop-answer g l = height l.node
