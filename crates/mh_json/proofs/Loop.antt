-- Reading a list item by item, as a loop does.
use Rattle.std.proofs.Common.{◌≡◌, ℕ, ◌+◌, ◌≤◌, ◌<◌, ◌⊎◌, inl, inr, List, [], ◌∷◌, ◌++◌, length, drop, get_or, map, Result, Ok, Err, refl, sym, ap, ◌∙◌, append_assoc}
use Rattle.std.proofs.lemmas.List.{append-nil, at_drop_more, at_drop_all}
use Rattle.serde_json.specs.Data.{Data}
use Rattle.serde_json.specs.View.{view}
use Rattle.serde_json.specs.declared.value.Value.{Value}
use Rattle.mh_json.specs.Gives.{◌>>=◌}
use Rattle.mh_json.specs.Shape.{each_from}

-- what was read before, and what is still read
abbrev pub with_front : {A E : Type 0} → List A → Result (List A) E → Result (List A) E
with_front front read = read >>= λ xs. Ok (front ++ xs)

regroup : {A E : Type 0} (front : List A) (x : A) (read : Result (List A) E) → with_front front (read >>= λ xs. Ok (x ∷ xs)) ≡ with_front (front ++ x ∷ []) read
regroup front x (Ok xs) = ap Ok (simp append_assoc)
regroup front x (Err f) = refl

-- the items from place i on, where the first has the number n
module _ {A E : Type 0} (f : ℕ → Data → Result A E) (front : List A) (xs : List Value) (i n : ℕ) where
  abbrev rest : List Value → Result (List A) E
  rest ys = with_front front (each_from f n (map view ys))

  pub one_more : (v : Value) (x : A) (total : Result (List A) E) → i < length xs → v ≡ get_or xs i v → f n (view v) ≡ Ok x
      → rest (drop i xs) ≡ total → with_front (front ++ x ∷ []) (each_from f (n + 1) (map view (drop (i + 1) xs))) ≡ total
  one_more v x total lt is read so_far =
      let here : rest (v ∷ drop (i + 1) xs) ≡ with_front (front ++ x ∷ []) (each_from f (n + 1) (map view (drop (i + 1) xs)))
      = rw read (regroup front x _) in
      sym here ∙ ap (λ w. rest (w ∷ drop (i + 1) xs)) is ∙ sym (at_drop_more rest xs i v lt) ∙ so_far

  pub stops : (v : Value) (e : E) (total : Result (List A) E) → i < length xs → v ≡ get_or xs i v → f n (view v) ≡ Err e
      → rest (drop i xs) ≡ total → total ≡ Err e
  stops v e total lt is read so_far =
      let here : rest (v ∷ drop (i + 1) xs) ≡ Err e = rw read refl in
      sym so_far ∙ at_drop_more rest xs i v lt ∙ ap (λ w. rest (w ∷ drop (i + 1) xs)) (sym is) ∙ here

  -- the same where memory may have run out
  pub stops_or : {M : Type 0} (v : Value) (e : E) (total : Result (List A) E) → i < length xs → v ≡ get_or xs i v → M ⊎ (f n (view v) ≡ Err e)
      → rest (drop i xs) ≡ total → M ⊎ (total ≡ Err e)
  stops_or v e total lt is (inl memory) so_far = inl memory
  stops_or v e total lt is (inr read) so_far = inr (stops v e total lt is read so_far)

  pub is_done : (total : Result (List A) E) → length xs ≤ i → rest (drop i xs) ≡ total → total ≡ Ok front
  is_done total le so_far = sym so_far ∙ at_drop_all rest xs i le ∙ ap Ok (append-nil front)
