use Rattle.std.proofs.Common.{◌+◌, ◌*◌}
use Rattle.mh_tree.specs.Laws.{effort, total_effort}
use Rattle.mh_tree.specs.Tree.{filters_of}
use Rattle.mh_tree.specs.TreeOf.{tree_of, filter_trees}
use Rattle.mh_eval.proofs.evaluator.+run.Given as goal

-- what is left to do: as much as a tree may take for each tree that may be invoked below another; five for each node and for each
-- place of a filter, and some for the call that has entered a node
abbrev pub decreases-run : goal.decreases-run
decreases-run l = 22282250 * l.level + 5 * effort (tree_of l.node.now)

abbrev pub decreases-run_above : goal.decreases-run_above
decreases-run_above l = 22282250 * l.level + 5 * effort (tree_of l.node.now) + 1

abbrev pub decreases-run_place : goal.decreases-run_place
decreases-run_place l = 22282250 * l.level + 5 * effort (tree_of l.node.now) + 2

abbrev pub decreases-run_filters : goal.decreases-run_filters
decreases-run_filters l = 22282250 * l.level + 5 * (total_effort (filters_of (filter_trees l.filters.now))) + 3

abbrev pub decreases-run_insert : goal.decreases-run_insert
decreases-run_insert l = 22282250 * l.level + 5 * (effort (tree_of l.target.now)) + 4

abbrev pub decreases-run_drop : goal.decreases-run_drop
decreases-run_drop l = 22282250 * l.level + 5 * (effort (tree_of l.target.now)) + 4

abbrev pub decreases-run_permute : goal.decreases-run_permute
decreases-run_permute l = 22282250 * l.level + 5 * (effort (tree_of l.target.now)) + 4

abbrev pub decreases-run_filter : goal.decreases-run_filter
decreases-run_filter l = 22282250 * l.level + 5 * (effort (tree_of l.target.now) + total_effort (filters_of (filter_trees l.filters.now))) + 4

abbrev pub decreases-run_filter_return : goal.decreases-run_filter_return
decreases-run_filter_return l = 22282250 * l.level + 5 * (effort (tree_of l.target.now) + effort (tree_of l.last.now)) + 4

abbrev pub decreases-run_fold : goal.decreases-run_fold
decreases-run_fold l = 22282250 * l.level + 5 * (effort (tree_of l.target.now) + effort (tree_of l.combiner.now)) + 4

abbrev pub decreases-run_guard : goal.decreases-run_guard
decreases-run_guard l = 22282250 * l.level + 5 * (effort (tree_of l.test.now) + (effort (tree_of l.target.now) + effort (tree_of l.fallback.now))) + 4

abbrev pub decreases-run_point : goal.decreases-run_point
decreases-run_point l = 22282250 * l.level + 5 * (effort (tree_of l.target.now) + effort (tree_of l.fallback.now)) + 4

abbrev pub decreases-run_present : goal.decreases-run_present
decreases-run_present l = 22282250 * l.level + 5 * (effort (tree_of l.node.now) + total_effort (filters_of (filter_trees l.rest.now))) + 4

abbrev pub decreases-run_invoke : goal.decreases-run_invoke
decreases-run_invoke l = 22282250 * l.level + 4
