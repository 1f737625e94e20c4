use Rattle.std.proofs.Common.{◌≡◌, ◌-◌, []}
use Rattle.mh_code.specs.Height.{height}
use Rattle.mh_code.specs.PieceOf.{routine_of}
use Rattle.mh_run.specs.inner.Runs.{Goes}
use Rattle.mh_run.proofs.forwarding.lead.Given as goal
use Rattle.mh_tree.specs.Sites.{setting}

abbrev pub invariant-loop-piece : goal.invariant-loop-piece
invariant-loop-piece l =
    Goes (setting (4 - l.reached.depth) l.here.valid.now l.here.targets.now) l.reached.arguments.now [] (routine_of l.reached.piece.now) l.reached.total [] (routine_of l.left.piece.now) l.left.total
    × (l.left.depth ≡ l.reached.depth)
    × (l.left.arguments ≡ l.reached.arguments)

abbrev pub decreases-loop-piece : goal.decreases-loop-piece
decreases-loop-piece l = height l.left.piece.now
