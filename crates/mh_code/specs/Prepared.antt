-- The invariant of a prepared handle.
use Rattle.std.specs.Prelude.{◌≡◌}
use Rattle.std.specs.Arc.{arc_value}
use Rattle.mh_code.specs.PieceOf.{routine_of_code}
use Rattle.mh_code.specs.RoutineOf.{handle_routine}
use Rattle.mh_code.specs.declared.prepared.Prepared.TheInside.{Inside}
use Rattle.mh_tree.specs.Handle.{TypedTree, IsSound}

abbrev pub kept_handle : Inside → TypedTree
kept_handle p = p.handle

-- the code is the tree's
pub record IsPrepared (p : Inside) : Type 0 where
  pub sound : IsSound p.handle.tree p.handle.signature
  pub code : routine_of_code (arc_value p.code) ≡ handle_routine p.handle
