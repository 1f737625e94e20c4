use Rattle.std.proofs.Common.{◌≡◌, take, map}
use Rattle.std.specs.Prelude.{option_map}
use Rattle.mh_tree.specs.TreeOf.{filter_trees}
use Rattle.mh_tree.specs.Handle.{TypedTree}
use Rattle.mh_tree.proofs.filters.owners.Given as goal

abbrev pub invariant-loop-filter : goal.invariant-loop-filter
invariant-loop-filter l = filter_trees l.owned.items ≡ map (option_map (λ (f : TypedTree). f.tree)) (take l.filter-index l.filters)
