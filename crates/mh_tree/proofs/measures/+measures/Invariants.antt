use Rattle.std.proofs.Common.{◌≡◌, ◌+◌, ◌*◌, drop}
use Rattle.std.specs.Prelude.{max}
use Rattle.mh_tree.specs.Limits.{size, deepest, total_size, greatest_bound, greatest_site}
use Rattle.mh_tree.specs.Tree.{filters_of}
use Rattle.mh_tree.specs.TreeOf.{tree_of, filter_trees}
use Rattle.mh_tree.proofs.measures.+measures.Given as goal

-- what is left to do: two for each node, and one for the call that has the filters
abbrev pub decreases-measure : goal.decreases-measure
decreases-measure l = 2 * size (tree_of l.node.now)

abbrev pub decreases-measure_filters : goal.decreases-measure_filters
decreases-measure_filters l = 2 * total_size (filters_of (filter_trees l.filters.now)) + 1

-- what is so far, with what is left, is the whole
abbrev pub invariant-measure_filters-loop-filter : goal.invariant-measure_filters-loop-filter
invariant-measure_filters-loop-filter l =
    let whole = filters_of (filter_trees l.filters) in
    let left = filters_of (filter_trees (drop l.filter-index l.filters)) in
    record {
      deep : max l.all.depth (deepest left) ≡ deepest whole;
      large : l.all.size + total_size left ≡ total_size whole;
      bound : max l.all.point_bound (greatest_bound left) ≡ greatest_bound whole;
      sites : max l.all.site_bound (greatest_site left) ≡ greatest_site whole;
    }
