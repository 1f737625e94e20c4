use Rattle.std.proofs.Common.{◌≡◌, drop, map}
use Rattle.serde_json.specs.View.{view}
use Rattle.mh_json.specs.Shape.{items_from}
use Rattle.mh_json.specs.Trees.{filter_of, filters_of}
use Rattle.mh_json.proofs.Loop.{with_front}
use Rattle.mh_json.proofs.json.trees.+tree.Given as goal

-- the filters so far, and then those that are read of the rest, are those that are read of all
abbrev pub invariant-read_filters-loop-i : goal.invariant-read_filters-loop-i
invariant-read_filters-loop-i l =
    with_front l.filters.items (items_from (λ _ d. filter_of l.scope d) l.i (map view (drop l.i l.items))) ≡ filters_of l.scope (view l.value)
