use Rattle.std.proofs.Common.{◌≡◌, ◌+◌, ◌*◌, take}
use Rattle.std.specs.Arc.{arc_value}
use Rattle.mh_tree.specs.Limits.{size, total_size}
use Rattle.mh_tree.specs.Tree.{filters_of}
use Rattle.mh_tree.specs.TreeOf.{tree_of, filter_trees}
use Rattle.mh_pic.specs.Specialised.{any_names, resolved_filters}
use Rattle.mh_pic.proofs.resolving.+resolves.Given as goal

-- what is left to do: three for each node, and one or two for the call that has its parts
abbrev pub decreases-resolve : goal.decreases-resolve
decreases-resolve l = 3 * size (tree_of l.node.now)

abbrev pub decreases-resolve_filter : goal.decreases-resolve_filter
decreases-resolve_filter l = 3 * (size (tree_of (arc_value l.target.now)) + total_size (filters_of (filter_trees l.filters.now))) + 2

abbrev pub decreases-resolve_filters : goal.decreases-resolve_filters
decreases-resolve_filters l = 3 * total_size (filters_of (filter_trees l.filters.now)) + 1

abbrev pub decreases-resolve_filter_return : goal.decreases-resolve_filter_return
decreases-resolve_filter_return l = 3 * (size (tree_of (arc_value l.target.now)) + size (tree_of (arc_value l.filter.now))) + 1

abbrev pub decreases-resolve_fold : goal.decreases-resolve_fold
decreases-resolve_fold l = 3 * (size (tree_of (arc_value l.target.now)) + size (tree_of (arc_value l.combiner.now))) + 1

abbrev pub decreases-resolve_guard : goal.decreases-resolve_guard
decreases-resolve_guard l =
    3 * (size (tree_of (arc_value l.test.now)) + (size (tree_of (arc_value l.target.now)) + size (tree_of (arc_value l.fallback.now)))) + 1

abbrev pub decreases-resolve_point : goal.decreases-resolve_point
decreases-resolve_point l = 3 * (size (tree_of (arc_value l.target.now)) + size (tree_of (arc_value l.fallback.now))) + 1

abbrev pub invariant-resolve_filters-loop-filter : goal.invariant-resolve_filters-loop-filter
invariant-resolve_filters-loop-filter l = record {
  value : filters_of (filter_trees l.resolved.items) ≡ resolved_filters l.valid l.points (filters_of (filter_trees (take l.filter-index l.filters)));
  made : l.changed ≡ any_names l.points (filters_of (filter_trees (take l.filter-index l.filters)));
}
