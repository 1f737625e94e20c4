use Rattle.std.proofs.Common.{◌≡◌, drop, map}
use Rattle.std.specs.List.{slice_get}
use Rattle.serde_json.specs.View.{view}
use Rattle.mh_json.specs.Shape.{items_from}
use Rattle.mh_json.specs.Values.{value_for}
use Rattle.mh_json.proofs.Loop.{with_front}
use Rattle.mh_json.proofs.json.values.read_values.Given as goal

-- the values so far, and then those that are read of the rest, are those that are read of all
abbrev pub invariant-loop-i : goal.invariant-loop-i
invariant-loop-i l =
    with_front l.read.items (items_from (λ i d. value_for (slice_get l.kinds i) d) l.i (map view (drop l.i l.values))) ≡ items_from (λ i d. value_for (slice_get l.kinds i) d) 0 (map view l.values)
