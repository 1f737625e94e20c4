use Rattle.std.proofs.Common.{◌≡◌, drop}
use Rattle.std.specs.Prelude.{max}
use Rattle.mh_tree.specs.Constructors.{plain_filters}
use Rattle.mh_tree.specs.Limits.{greatest_site}
use Rattle.mh_tree.proofs.filters.greatest_site.Given as goal

-- what is so far, with what is left, is the whole
abbrev pub invariant-loop-filter : goal.invariant-loop-filter
invariant-loop-filter l = max l.greatest (greatest_site (plain_filters (drop l.filter-index l.filters))) ≡ greatest_site (plain_filters l.filters)
