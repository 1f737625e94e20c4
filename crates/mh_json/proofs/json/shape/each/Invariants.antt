use Rattle.std.proofs.Common.{◌≡◌, map, drop, Result}
use Rattle.std.specs.Fn.{FnReturnsAt}
use Rattle.serde_json.specs.Data.{Data}
use Rattle.serde_json.specs.declared.value.Value.{Value}
use Rattle.serde_json.specs.View.{view}
use Rattle.mh_json.specs.Misreads.{MisreadData}
use Rattle.mh_json.specs.Gives.{Gives}
use Rattle.mh_json.specs.Shape.{items_from}
use Rattle.mh_json.proofs.Loop.{with_front}
use Rattle.mh_json.proofs.json.shape.each.Given as goal

-- the items so far, and then those that are read of the rest, are those that are read of all
abbrev pub invariant-loop-i : goal.invariant-loop-i
invariant-loop-i g l =
    (f : Data → Result g.row.T.Denot MisreadData)
    → ((v : Value) (r : Result g.row.T.Denot MisreadData) → FnReturnsAt g.F.Fn l.fn.read v r → Gives (λ x. x) r (f (view v)))
    → with_front l.items.items (items_from (λ _ d. f d) l.i (map view (drop l.i l.values))) ≡ items_from (λ _ d. f d) 0 (map view l.values)
