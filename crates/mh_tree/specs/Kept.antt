-- The invariant of a handle: the type and the measures are those of its tree.
use Rattle.std.specs.Prelude.{◌≡◌}
use Rattle.std.specs.Arc.{arc_value}
use Rattle.mh_tree.specs.TreeOf.{tree_of}
use Rattle.mh_tree.specs.Handle.{TypedTree, IsSound}
use Rattle.mh_tree.specs.Limits.{depth, size, point_bound, site_bound}
use Rattle.mh_tree.specs.declared.handle.Handle.TheInside.{Inside}

abbrev pub kept_tree : Inside → TypedTree
kept_tree h = record { tree = tree_of (arc_value (arc_value h.shared).root); signature = (arc_value h.shared).method_type }

pub record IsKept (h : Inside) : Type 0 where
  pub sound : IsSound (tree_of (arc_value (arc_value h.shared).root)) (arc_value h.shared).method_type
  pub deep : (arc_value h.shared).depth ≡ depth (tree_of (arc_value (arc_value h.shared).root))
  pub large : (arc_value h.shared).size ≡ size (tree_of (arc_value (arc_value h.shared).root))
  pub bound : (arc_value h.shared).point_bound ≡ point_bound (tree_of (arc_value (arc_value h.shared).root))
  pub sites : (arc_value h.shared).site_bound ≡ site_bound (tree_of (arc_value (arc_value h.shared).root))
