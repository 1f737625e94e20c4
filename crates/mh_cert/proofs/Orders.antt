-- Rows in order, by link and then point, and charges by link.
use Rattle.std.proofs.Common.{◌≡◌, ◌<◌, ◌≤◌, ◌+◌, ◌-◌, ℕ, List, arith, inl, inr, ◌∙◌, sym, subst, slice_index_or, length}
use Rattle.std.proofs.lemmas.List.{get_or_default}
use Rattle.std.proofs.lemmas.Bool.{cases_lt}
use Rattle.mh_network.specs.Selection.{Row, Charge, IsBefore, IsChargeBefore}

pub before_later : (a b c : Row) → IsBefore a b → IsBefore b c → IsBefore a c
before_later a b c (inl l) (inl m) = inl (omega arith)
before_later a b c (inl l) (inr m) = inl (omega (arith, m.0))
before_later a b c (inr l) (inl m) = inl (omega (arith, l.0))
before_later a b c (inr l) (inr m) = inr (l.0 ∙ m.0, omega (arith, l.1, m.1))

pub charge_later : (a b c : Charge) → IsChargeBefore a b → IsChargeBefore b c → IsChargeBefore a c
charge_later a b c l m = omega (arith, l, m)

-- what holds of each pair of items below one, and of the last of them and that one, holds of each pair up to it
pub pairs_more : {X : Type 0} (R : X → X → Type 0) → ((a b c : X) → R a b → R b c → R a c) → (o : X) (xs : List X) (n : ℕ) → 1 ≤ n →
    ((i j : ℕ) (d : X) → i < j → j < n → R (slice_index_or xs i d) (slice_index_or xs j d)) →
    n < length xs → R (slice_index_or xs (n - 1) o) (slice_index_or xs n o) →
    (i j : ℕ) (d : X) → i < j → j < n + 1 → R (slice_index_or xs i d) (slice_index_or xs j d)
pairs_more {X} R later o xs n first below inside pair i j d less within =
    let last : R (slice_index_or xs (n - 1) d) (slice_index_or xs n d) =
    subst (λ (x : X). R x (slice_index_or xs n d)) (get_or_default xs (n - 1) o d (omega arith))
    (subst (λ (x : X). R (slice_index_or xs (n - 1) o) x) (get_or_default xs n o d inside) pair) in
    elim (cases_lt j n) [
      | inl m ↦ below i j d less m
      | inr m ↦
          let here : j ≡ n = omega arith in
          subst (λ (k : ℕ). R (slice_index_or xs i d) (slice_index_or xs k d)) (sym here)
          (elim (cases_lt i (n - 1)) [
            | inl b ↦ later (slice_index_or xs i d) (slice_index_or xs (n - 1) d) (slice_index_or xs n d) (below i (n - 1) d b (omega arith)) last
            | inr b ↦
                let same : i ≡ n - 1 = omega arith in
                subst (λ (k : ℕ). R (slice_index_or xs k d) (slice_index_or xs n d)) (sym same) last
          ])
    ]
