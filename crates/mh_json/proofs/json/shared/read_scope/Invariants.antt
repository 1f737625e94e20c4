use Rattle.std.proofs.Common.{◌≡◌, drop, map}
use Rattle.serde_json.specs.View.{view}
use Rattle.mh_json.specs.Shared.{all_shared_of}
use Rattle.mh_json.proofs.json.shared.read_scope.Given as goal

-- the names so far, and then those that are read of the rest, are those that are read of all
abbrev pub invariant-loop-i : goal.invariant-loop-i
invariant-loop-i l =
    all_shared_of l.scope l.i (map view (drop l.i l.pairs)) ≡ all_shared_of l.initial.scope 0 (map view l.pairs)
