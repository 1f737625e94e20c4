use Rattle.std.proofs.Common.{◌≡◌, ◌+◌, ◌*◌, ◌≤◌, [], ◌∷◌, map, take, drop}
use Rattle.serde_json.specs.View.{view}
use Rattle.mh_tree.specs.Laws.Effort.{effort, total_effort}
use Rattle.mh_tree.specs.Tree.{filters_of}
use Rattle.mh_tree.specs.TreeOf.{tree_of, filter_trees}
use Rattle.mh_json.proofs.FilterItems.{owner_data}
use Rattle.mh_json.proofs.writer.Writer.+tree.Given as goal

-- what is left to do: three for each node and each filter's place, and less for the calls between
abbrev pub decreases-tree : goal.decreases-tree
decreases-tree l = 3 * effort (tree_of l.node.now)

abbrev pub decreases-insert : goal.decreases-insert
decreases-insert l = 3 * effort (tree_of l.target.now) + 1

abbrev pub decreases-discard : goal.decreases-discard
decreases-discard l = 3 * effort (tree_of l.target.now) + 1

abbrev pub decreases-permute : goal.decreases-permute
decreases-permute l = 3 * effort (tree_of l.target.now) + 1

abbrev pub decreases-filter : goal.decreases-filter
decreases-filter l = 3 * (effort (tree_of l.target.now) + total_effort (filters_of (filter_trees l.filters.now))) + 2

abbrev pub decreases-filters : goal.decreases-filters
decreases-filters l = 3 * total_effort (filters_of (filter_trees l.filters.now)) + 1

abbrev pub decreases-filter_or_null : goal.decreases-filter_or_null
decreases-filter_or_null l = 3 * total_effort (filters_of (filter_trees (l.filter.now ∷ [])))

abbrev pub decreases-filter_return : goal.decreases-filter_return
decreases-filter_return l = 3 * (effort (tree_of l.target.now) + effort (tree_of l.filter.now)) + 1

abbrev pub decreases-fold : goal.decreases-fold
decreases-fold l = 3 * (effort (tree_of l.target.now) + effort (tree_of l.combiner.now)) + 1

abbrev pub decreases-guard : goal.decreases-guard
decreases-guard l = 3 * (effort (tree_of l.test.now) + (effort (tree_of l.target.now) + effort (tree_of l.fallback.now))) + 1

abbrev pub decreases-point : goal.decreases-point
decreases-point l = 3 * (effort (tree_of l.target.now) + effort (tree_of l.fallback.now)) + 1

-- the filters so far, and the work that is left
abbrev pub invariant-filters-loop-filter : goal.invariant-filters-loop-filter
invariant-filters-loop-filter l =
    record {
      value : map view l.list.items ≡ map (owner_data l.self.definition.now) (take l.filter-index l.filters);
      small : total_effort (filters_of (filter_trees (drop l.filter-index l.filters))) ≤ total_effort (filters_of (filter_trees l.filters));
    }
