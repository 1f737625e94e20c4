use Rattle.std.proofs.Common.{◌≡◌, ◌≤◌, drop}
use Rattle.std.specs.Prelude.{max}
use Rattle.mh_tree.specs.Constructors.{plain_filters}
use Rattle.mh_tree.specs.Limits.{deepest}
use Rattle.mh_tree.proofs.filters.deepest.Given as goal

-- what is so far, with what is left, is the whole
abbrev pub invariant-loop-filter : goal.invariant-loop-filter
invariant-loop-filter l = record {
  whole : max l.deepest (deepest (plain_filters (drop l.filter-index l.filters))) ≡ deepest (plain_filters l.filters);
  shallow : l.deepest ≤ 96;
}
