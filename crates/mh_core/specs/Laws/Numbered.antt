-- Lists over the numbers below a bound.
use Rattle.std.proofs.Common.{◌≡◌, ℕ, ◌+◌, ◌<◌, List, [], ◌∷◌, ◌++◌, map, ap, sym, subst, ◌∙◌, arith}
use Rattle.std.specs.List.{All}
use Rattle.std.proofs.lemmas.List.{ext_get_or}
use Rattle.std.proofs.lemmas.List.FromFn.{get_or-map-range_with_len, length-map-range_with_len, map-range_with_len_more}
use Rattle.mh_ledger.specs.Ledgers.{at}
use Rattle.mh_core.specs.Records.{numbers}

pub same_numbers : {X : Type 0} (d : X) (f g : ℕ → X) (n : ℕ) → ((i : ℕ) → i < n → f i ≡ g i) → map f (numbers n) ≡ map g (numbers n)
same_numbers d f g n h =
    ext_get_or d (map f (numbers n)) (map g (numbers n)) (length-map-range_with_len f 0 n ∙ sym (length-map-range_with_len g 0 n))
    (λ i within.
    let inside : i < n = omega (arith, within, length-map-range_with_len f 0 n) in
    get_or-map-range_with_len f 0 n i i d inside (omega arith) ∙ (h i inside ∙ sym (get_or-map-range_with_len g 0 n i i d inside (omega arith))))

pub all_numbers : {X : Type 0} (P : X → Type 0) (f : ℕ → X) (n : ℕ) → ((i : ℕ) → i < n → P (f i)) → All P (map f (numbers n))
all_numbers P f n h k d within =
    let inside : k < n = omega (arith, within, length-map-range_with_len f 0 n) in
    subst P (sym (get_or-map-range_with_len f 0 n k k d inside (omega arith))) (h k inside)

pub at_number : (f : ℕ → ℕ) (n j : ℕ) → j < n → at (map f (numbers n)) j ≡ f j
at_number f n j h = get_or-map-range_with_len f 0 n j j 0 h (omega arith)

-- a loop that pushes one item per number
pub more_numbers : {X : Type 0} (f : ℕ → X) (n : ℕ) (xs ys : List X) (x : X) → xs ≡ map f (numbers n) → x ≡ f n → ys ≡ xs ++ x ∷ [] → ys ≡ map f (numbers (n + 1))
more_numbers f n xs ys x before same push =
    push ∙ (ap (λ zs. zs ++ x ∷ []) before ∙ (ap (λ z. map f (numbers n) ++ z ∷ []) same ∙ sym (map-range_with_len_more f 0 n n (omega arith))))
