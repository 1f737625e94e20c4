use Rattle.std.proofs.Common.{◌≡◌, true, take}
use Rattle.std.specs.List.{list_all}
use Rattle.mh_tree.specs.Constructors.{is_unary}
use Rattle.mh_tree.proofs.filters.are_unary.Given as goal

abbrev pub invariant-loop-filter : goal.invariant-loop-filter
invariant-loop-filter l = list_all is_unary (take l.filter-index l.filters) ≡ true
