use Rattle.std.proofs.Common.{◌≡◌, ◌+◌, ◌*◌, ◌≤◌, drop}
use Rattle.mh_tree.specs.Constructors.{plain_filters}
use Rattle.mh_tree.specs.Limits.{total_size}
use Rattle.mh_tree.proofs.filters.total_size.Given as goal

-- what is so far, with what is left, is the whole
abbrev pub invariant-loop-filter : goal.invariant-loop-filter
invariant-loop-filter l = record {
  whole : l.total + total_size (plain_filters (drop l.filter-index l.filters)) ≡ total_size (plain_filters l.filters);
  small : l.total ≤ l.filter-index * 262144;
}
