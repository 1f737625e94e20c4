-- Shared trees read pair by pair, as a loop does.
use Rattle.std.proofs.Common.{◌≡◌, ℕ, ◌+◌, ◌<◌, ◌⊎◌, inl, inr, List, ◌∷◌, length, drop, get_or, map, Result, Ok, Err, refl, sym, ap, ◌∙◌}
use Rattle.std.proofs.lemmas.List.{at_drop_more}
use Rattle.serde_json.specs.View.{view}
use Rattle.serde_json.specs.declared.value.Value.{Value}
use Rattle.mh_json.specs.declared.json.scope.Scope.{Scope}
use Rattle.mh_json.specs.declared.key.Key.TheVariants.{Item}
use Rattle.mh_json.specs.Misreads.{MisreadData, under}
use Rattle.mh_json.specs.Shared.{shared_of, with_shared, all_shared_of}
use Rattle.mh_json.specs.declared.json.scope.Shared.{Shared}

module _ (scope : Scope) (xs : List Value) (i : ℕ) where
  abbrev rest : List Value → Result Scope MisreadData
  rest ys = all_shared_of scope i (map view ys)

  next_pair : (v : Value) (total : Result Scope MisreadData) → i < length xs → v ≡ get_or xs i v → rest (drop i xs) ≡ total → rest (v ∷ drop (i + 1) xs) ≡ total
  next_pair v total lt is so_far = ap (λ w. rest (w ∷ drop (i + 1) xs)) is ∙ sym (at_drop_more rest xs i v lt) ∙ so_far

  pub pair_more : (v : Value) (x : Shared) (total : Result Scope MisreadData) → i < length xs → v ≡ get_or xs i v → under (Item i) (shared_of scope (view v)) ≡ Ok x
      → rest (drop i xs) ≡ total → all_shared_of (with_shared scope x) (i + 1) (map view (drop (i + 1) xs)) ≡ total
  pair_more v x total lt is read so_far =
      let here : rest (v ∷ drop (i + 1) xs) ≡ all_shared_of (with_shared scope x) (i + 1) (map view (drop (i + 1) xs)) = rw read refl in
      sym here ∙ next_pair v total lt is so_far

  pub pair_stops : {M : Type 0} (v : Value) (e : MisreadData) (total : Result Scope MisreadData) → i < length xs → v ≡ get_or xs i v → M ⊎ (under (Item i) (shared_of scope (view v)) ≡ Err e)
      → rest (drop i xs) ≡ total → M ⊎ (total ≡ Err e)
  pair_stops v e total lt is (inl memory) so_far = inl memory
  pair_stops v e total lt is (inr read) so_far =
      let here : rest (v ∷ drop (i + 1) xs) ≡ Err e = rw read refl in
      inr (sym (next_pair v total lt is so_far) ∙ here)
