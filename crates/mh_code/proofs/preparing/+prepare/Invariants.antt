use Rattle.std.proofs.Common.{◌+◌, ◌*◌}
use Rattle.std.specs.Arc.{arc_value}
use Rattle.mh_tree.specs.Tree.{filters_of}
use Rattle.mh_tree.specs.TreeOf.{tree_of, filter_trees}
use Rattle.mh_tree.specs.Laws.{effort, total_effort}
use Rattle.mh_code.proofs.preparing.+prepare.Given as goal

-- what is left to do: four for each node and each filter's place, and up to three for the call that has entered a node
abbrev pub decreases-prepare : goal.decreases-prepare
decreases-prepare l = 4 * effort (tree_of l.node.now)

abbrev pub decreases-prepare_moved : goal.decreases-prepare_moved
decreases-prepare_moved l = 4 * effort (tree_of l.target.now) + 1

abbrev pub decreases-prepare_two : goal.decreases-prepare_two
decreases-prepare_two l = 4 * (effort (tree_of l.first.now) + (effort (tree_of (arc_value l.rest.now.target.now)) + total_effort (filters_of (filter_trees l.rest.now.filters.filters.now)))) + 2

abbrev pub decreases-prepare_for : goal.decreases-prepare_for
decreases-prepare_for l = 4 * effort (tree_of l.node.now) + 1

abbrev pub decreases-prepare_filters : goal.decreases-prepare_filters
decreases-prepare_filters l = 4 * (effort (tree_of (arc_value l.target.now)) + total_effort (filters_of (filter_trees l.left.now.filters.now))) + 1

abbrev pub decreases-prepare_return : goal.decreases-prepare_return
decreases-prepare_return l = 4 * (effort (tree_of (arc_value l.target.now)) + effort (tree_of (arc_value l.last.now))) + 3

abbrev pub decreases-prepare_fold : goal.decreases-prepare_fold
decreases-prepare_fold l = 4 * (effort (tree_of (arc_value l.target.now)) + effort (tree_of (arc_value l.combiner.now))) + 3

abbrev pub decreases-prepare_guard : goal.decreases-prepare_guard
decreases-prepare_guard l = 4 * (effort (tree_of (arc_value l.test.now)) + (effort (tree_of (arc_value l.branches.now.target.now)) + effort (tree_of (arc_value l.branches.now.fallback.now)))) + 3

abbrev pub decreases-prepare_point : goal.decreases-prepare_point
decreases-prepare_point l = 4 * (effort (tree_of (arc_value l.branches.now.target.now)) + effort (tree_of (arc_value l.branches.now.fallback.now))) + 3
