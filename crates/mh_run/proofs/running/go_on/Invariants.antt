use Rattle.std.proofs.Common.{◌≤◌, vec_capacity}
use Rattle.mh_code.specs.Height.{height}
use Rattle.mh_code.specs.PieceOf.{routine_of}
use Rattle.mh_run.specs.inner.Runs.{Goes}
use Rattle.mh_run.proofs.running.go_on.Given as goal
use Rattle.mh_tree.specs.Sites.{setting}

abbrev pub ghost-advance : goal.ghost-advance
ghost-advance g a = g.level

abbrev pub invariant-loop-next : goal.invariant-loop-next
invariant-loop-next g l =
    Goes (setting g.level l.here.valid.now l.here.targets.now) l.arguments l.initial.locals.items (routine_of l.piece) l.before l.locals.items (routine_of l.node) l.total
    × (height l.node ≤ height l.piece)
    × (vec_capacity l.initial.locals ≤ vec_capacity l.locals)

abbrev pub decreases-loop-next : goal.decreases-loop-next
decreases-loop-next g l = height l.node
