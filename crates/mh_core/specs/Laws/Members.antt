-- Ascending numbers, among all numbers of a range.
use Rattle.std.proofs.Common.{◌≡◌, ◌<◌, ◌≤◌, ◌+◌, ℕ, zero, suc, List, [], ◌∷◌, ◌++◌, Bool, false, cond, filter, slice_index_or, refl, sym, ap, ◌∙◌, arith, inl, inr}
use Rattle.std.specs.Prelude.{◌==◌}
use Rattle.std.specs.List.{All, AllPairs, range_with_len}
use Rattle.std.specs.List.Sorted.{IsStrictlyIncreasing}
use Rattle.std.proofs.lemmas.Bool.{cases_Bool, cases_lt, eqb-true, eq-eqb, ne_eqb, true≢false}
use Rattle.std.proofs.lemmas.List.Folds.{list_any_none}
use Rattle.std.proofs.lemmas.List.FromFn.{get_or-range_with_len, length-range_with_len}
use Rattle.std.proofs.lemmas.List.Kept.{AllPairs-from_increasing}
use Rattle.mh_network.specs.Selection.{member}

-- tests that agree on each element keep the same elements
pub filter_alike : (p q : ℕ → Bool) (xs : List ℕ) → All (λ x. p x ≡ q x) xs → filter p xs ≡ filter q xs
filter_alike p q [] same = refl
filter_alike p q (x ∷ xs) same =
    ap (λ (b : Bool). cond b (x ∷ filter p xs) (filter p xs)) (same zero 0 (omega arith))
    ∙ ap (λ (l : List ℕ). cond (q x) (x ∷ l) l) (filter_alike p q xs (λ k e below. same (suc k) e (omega arith)))

pub filter_none : (p : ℕ → Bool) (xs : List ℕ) → All (λ x. p x ≡ false) xs → filter p xs ≡ []
filter_none p [] none = refl
filter_none p (x ∷ xs) none =
    ap (λ (b : Bool). cond b (x ∷ filter p xs) (filter p xs)) (none zero 0 (omega arith)) ∙ filter_none p xs (λ k e below. none (suc k) e (omega arith))

-- a range in two parts
range_parts : (a n k : ℕ) → range_with_len a (n + k) ≡ range_with_len a n ++ range_with_len (a + n) k
range_parts a zero k =
    let none : zero + k ≡ k = omega arith in
    let place : a ≡ a + zero = omega arith in
    ap (range_with_len a) none ∙ ap (λ (b : ℕ). range_with_len b k) place
range_parts a (suc n) k =
    let more : suc n + k ≡ suc (n + k) = omega arith in
    let place : a + 1 + n ≡ a + suc n = omega arith in
    ap (range_with_len a) more ∙ ap (λ (l : List ℕ). a ∷ l) (range_parts (a + 1) n k ∙ ap (λ (b : ℕ). range_with_len (a + 1) n ++ range_with_len b k) place)

pub numbers_parts : (n k : ℕ) → range_with_len 0 (n + k) ≡ range_with_len 0 n ++ range_with_len n k
numbers_parts n k =
    let place : 0 + n ≡ n = omega arith in
    range_parts 0 n k ∙ ap (λ (b : ℕ). range_with_len 0 n ++ range_with_len b k) place

range_from : (a n : ℕ) → All (λ j. a ≤ j) (range_with_len a n)
range_from a n k e below =
    let inside : k < n = omega (arith, below, length-range_with_len a n) in
    let at = get_or-range_with_len a n k e inside in
    omega (arith, at)

-- a number below all elements of a list is not in it
absent : (j : ℕ) (xs : List ℕ) → All (λ x. j < x) xs → member xs j ≡ false
absent j xs above = list_any_none (λ x. x == j) xs (λ k e below. let more = above k e below in ne_eqb _ j (λ same. absurd (omega arith)))

past : (a x : ℕ) → a ≤ x → (x == a) ≡ false → a < x
past a x least other = elim (cases_lt a x) [ inl h ↦ h | inr h ↦ let same : x ≡ a = omega (arith, h, least) in absurd (true≢false (sym (eq-eqb x a same) ∙ other)) ]

above_first : (a x : ℕ) (xs : List ℕ) → a < x → AllPairs (λ y z. y < z) (x ∷ xs) → All (λ y. a < y) (x ∷ xs)
above_first a x xs less up zero e below = less
above_first a x xs less up (suc k) e below = let more = up zero (suc k) e (omega arith) below in omega (arith, more, less)

among : (xs : List ℕ) (a n : ℕ) → AllPairs (λ x y. x < y) xs → All (λ x. a ≤ x) xs → All (λ x. x < a + n) xs → filter (member xs) (range_with_len a n) ≡ xs
among [] a n up least most = filter_none (member []) (range_with_len a n) (λ k e below. refl)
among (x ∷ xs) a zero up least most = let low = least zero 0 (omega arith) in let high = most zero 0 (omega arith) in absurd (omega (arith, low, high))
among (x ∷ xs) a (suc n) up least most =
    elim (cases_Bool (x == a)) [
      | inl first ↦
          let same : x ≡ a = eqb-true x a first in
          let above : All (λ y. a + 1 ≤ y) xs = λ k e below. let more = up zero (suc k) e (omega arith) (omega arith) in omega (arith, more, same) in
          let alike : filter (member (x ∷ xs)) (range_with_len (a + 1) n) ≡ filter (member xs) (range_with_len (a + 1) n) =
          filter_alike (member (x ∷ xs)) (member xs) (range_with_len (a + 1) n)
          (λ k e below.
          let more = range_from (a + 1) n k e below in
          let other : (x == slice_index_or (range_with_len (a + 1) n) k e) ≡ false = ne_eqb x _ (λ is. absurd (omega (arith, is, more, same))) in
          rw other refl) in
          let rest = among xs (a + 1) n (λ i j e l b. up (suc i) (suc j) e (omega arith) (omega arith)) above (λ k e below. let high = most (suc k) e (omega arith) in omega (arith, high)) in
          rw first (ap (λ (l : List ℕ). a ∷ l) (alike ∙ rest) ∙ ap (λ (y : ℕ). y ∷ xs) (sym same))
      | inr later ↦
          let above = above_first a x xs (past a x (least zero 0 (omega arith)) later) up in
          rw (absent a (x ∷ xs) above) (among (x ∷ xs) (a + 1) n up (λ k e below. let more = above k e below in omega (arith, more)) (λ k e below. let high = most k e below in omega (arith, high)))
    ]

-- ascending numbers below a bound are the numbers below the bound that are among them
pub rising_below : (n : ℕ) (xs : List ℕ) → IsStrictlyIncreasing xs → All (λ x. x < n) xs → filter (member xs) (range_with_len 0 n) ≡ xs
rising_below n xs up below = among xs 0 n (AllPairs-from_increasing xs up) (λ k e inside. omega arith) (λ k e inside. let high = below k e inside in omega (arith, high))
