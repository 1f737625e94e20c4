use Rattle.std.proofs.Common.{◌+◌, ◌*◌}
use Rattle.std.specs.Arc.{arc_value}
use Rattle.mh_tree.specs.Limits.{size}
use Rattle.mh_tree.specs.TreeOf.{tree_of}
use Rattle.mh_pic.proofs.specialising.+specialises.Given as goal

-- what is left to do: two for each node, and one for the call that has the parts of a guard
abbrev pub decreases-specialise_node : goal.decreases-specialise_node
decreases-specialise_node l = 2 * size (tree_of l.node.now)

abbrev pub decreases-specialise_guard : goal.decreases-specialise_guard
decreases-specialise_guard l = 2 * (size (tree_of (arc_value l.target.now)) + size (tree_of (arc_value l.fallback.now))) + 1
