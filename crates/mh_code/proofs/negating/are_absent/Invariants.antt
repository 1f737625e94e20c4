use Rattle.std.proofs.Common.{◌≡◌, length}
use Rattle.mh_tree.specs.Tree.{filters_of}
use Rattle.mh_tree.specs.TreeOf.{filter_trees}
use Rattle.mh_code.specs.inner.Negations.{are_absent}
use Rattle.mh_code.proofs.negating.are_absent.Given as goal

abbrev pub invariant-loop-filter : goal.invariant-loop-filter
invariant-loop-filter l = are_absent (filters_of (filter_trees l.filters)) ≡ are_absent (filters_of (filter_trees l.left))

abbrev pub decreases-loop-filter : goal.decreases-loop-filter
decreases-loop-filter l = length l.left
