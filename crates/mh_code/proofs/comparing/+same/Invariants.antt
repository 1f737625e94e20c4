use Rattle.std.proofs.Common.{◌+◌, ◌*◌}
use Rattle.mh_tree.specs.Tree.{filters_of}
use Rattle.mh_tree.specs.TreeOf.{tree_of, filter_trees}
use Rattle.mh_tree.specs.Laws.Effort.{effort, total_effort}
use Rattle.mh_code.proofs.comparing.+same.Given as goal

-- what is left to do: two for each node and each filter's place, and one for the call that has not told the node's form yet
abbrev pub decreases-same_tree : goal.decreases-same_tree
decreases-same_tree l = 2 * effort (tree_of l.one.now) + 1

abbrev pub decreases-same_moved : goal.decreases-same_moved
decreases-same_moved l = 2 * effort (tree_of l.one.now)

abbrev pub decreases-same_composed : goal.decreases-same_composed
decreases-same_composed l = 2 * effort (tree_of l.one.now)

abbrev pub decreases-same_chosen : goal.decreases-same_chosen
decreases-same_chosen l = 2 * effort (tree_of l.one.now)

abbrev pub decreases-same_filters : goal.decreases-same_filters
decreases-same_filters l = 2 * total_effort (filters_of (filter_trees l.some.now)) + 1
