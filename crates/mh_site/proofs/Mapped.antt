-- A loop that writes each element in its turn.
use Rattle.std.proofs.Common.{◌≡◌, ℕ, zero, suc, ◌+◌, ◌<◌, List, [], ◌∷◌, ◌++◌, length, map, take, drop, slice_set, slice_index_or, ap, sym, ◌∙◌, arith, add-one}

module _ {X : Type 0} (f : X → X) where
  -- the elements written so far, and then the others
  abbrev pub partly : ℕ → List X → List X
  partly i xs = map f (take i xs) ++ drop i xs

  written : (i : ℕ) (xs : List X) (new d : X) → i < length xs → new ≡ f (slice_index_or (partly i xs) i d) → slice_set (partly i xs) i new ≡ partly (suc i) xs
  written i [] new d lt e = absurd (omega arith)
  written zero (x ∷ xs) new d lt e = ap (λ y. y ∷ xs) e
  written (suc i) (x ∷ xs) new d lt e = ap (λ ys. f x ∷ ys) (written i xs new d (omega arith) e)

  pub partly_more : (ys xs : List X) (i : ℕ) (new d : X) → i < length xs → ys ≡ partly i xs → new ≡ f (slice_index_or ys i d) → slice_set ys i new ≡ partly (i + 1) xs
  partly_more ys xs i new d lt is e =
      ap (λ zs. slice_set zs i new) is ∙ (written i xs new d lt (e ∙ ap (λ zs. f (slice_index_or zs i d)) is) ∙ ap (λ n. partly n xs) (sym (add-one i)))
