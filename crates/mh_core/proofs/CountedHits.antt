-- The links that were hit, one link more at a time.
use Rattle.std.proofs.Common.{◌≡◌, ℕ, ◌+◌, ◌==◌, Bool, true, false, not, cond, List, [], ◌∷◌, ◌++◌, map, filter, refl, ap, ◌∙◌, arith}
use Rattle.std.specs.List.{range_with_len}
use Rattle.std.proofs.lemmas.Bool.Decides.{Decides-eqb}
use Rattle.std.proofs.lemmas.List.{append-nil}
use Rattle.std.proofs.lemmas.List.FromFn.{filter_of_map_range_with_len_more}
use Rattle.mh_ledger.specs.Ledgers.{at}

abbrev counted_at : List ℕ → ℕ → ℕ × ℕ
counted_at counts j = (j, at counts j)

abbrev is_counted : ℕ × ℕ → Bool
is_counted p = not (p.1 == 0)

-- those below a number
abbrev pub counted_below : List ℕ → ℕ → List (ℕ × ℕ)
counted_below counts n = filter is_counted (map (counted_at counts) (range_with_len 0 n))

-- one link more, which was not hit or was
pub counted_none : (counts : List ℕ) (n : ℕ) → at counts n ≡ 0 → counted_below counts (n + 1) ≡ counted_below counts n
counted_none counts n h =
    filter_of_map_range_with_len_more is_counted (counted_at counts) 0 n n (omega arith)
    ∙ (ap (λ c. counted_below counts n ++ cond (not (c == 0)) (counted_at counts n ∷ []) []) h ∙ append-nil (counted_below counts n))

pub counted_hit : (counts : List ℕ) (n : ℕ) → (at counts n ≡ 0 → ⊥) → counted_below counts (n + 1) ≡ counted_below counts n ++ counted_at counts n ∷ []
counted_hit counts n h = filter_of_map_range_with_len_more is_counted (counted_at counts) 0 n n (omega arith) ∙ by_test (at counts n == 0) refl
  where
    by_test : (b : Bool) → (at counts n == 0) ≡ b → counted_below counts n ++ cond (not b) (counted_at counts n ∷ []) [] ≡ counted_below counts n ++ counted_at counts n ∷ []
    by_test true e = absurd (h ((Decides-eqb (at counts n) 0).0 e))
    by_test false e = refl
