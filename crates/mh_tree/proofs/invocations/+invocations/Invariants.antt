use Rattle.std.proofs.Common.{◌+◌, ◌*◌}
use Rattle.mh_tree.specs.Laws.Effort.{effort, total_effort}
use Rattle.mh_tree.specs.Tree.{filters_of}
use Rattle.mh_tree.specs.TreeOf.{tree_of, filter_trees}
use Rattle.mh_tree.proofs.invocations.+invocations.Given as goal

-- what is left to do: two for each node and each filter's place, and one for the call that has the filters
abbrev pub decreases-each_invocation : goal.decreases-each_invocation
decreases-each_invocation g l = 2 * effort (tree_of l.node.now)

abbrev pub decreases-each_of_filters : goal.decreases-each_of_filters
decreases-each_of_filters g l = 2 * total_effort (filters_of (filter_trees l.filters.now)) + 1
