-- Sorted numbers are the ascending ones.
use Rattle.std.proofs.Common.{◌&&◌, not, add-one, ◌≡◌, ℕ, zero, suc, ◌+◌, ◌<◌, ◌≤◌, ◌==◌, Bool, true, false, cond, ◌⊎◌, inl, inr, List, [], ◌∷◌, length, slice_index_or, refl, ap, sym, ◌∙◌, arith, leb}
use Rattle.std.specs.List.{sum_by, list_all, list_any}
use Rattle.std.specs.List.Sorted.{IsPermutation, IsSorted, IsNonDecreasing, IsStrictlyIncreasing}
use Rattle.std.specs.Ordering.{nat_cmp}
use Rattle.std.proofs.lemmas.List.Sorted.{sum_by-IsPermutation, IsNonDecreasingBy-from_sort}
use Rattle.std.proofs.lemmas.List.Sums.{sum_by-cons}
use Rattle.std.proofs.lemmas.Map.Keys.{non_decreasing_from_sorted, sorted_from_strictly_increasing}
use Rattle.std.proofs.lemmas.Bool.Decides.{nat_tests}
use Rattle.std.proofs.lemmas.Bool.{leb-true}
use Rattle.mh_site.specs.Ascending.{put_in, ascending}
use Rattle.mh_site.specs.Definitions.{all_differ}
use Rattle.mh_site.specs.Laws.Tests.{left_true, right_true, left_false, right_false, not_true}

-- x is at most each
abbrev pub Below : ℕ → List ℕ → Type 0
Below x [] = Unit {0}
Below x (y ∷ ys) = (x ≤ y) × Below x ys

abbrev pub Rises : List ℕ → Type 0
Rises [] = Unit {0}
Rises (x ∷ xs) = Below x xs × Rises xs

abbrev pub one_if : Bool → ℕ
one_if true = 1
one_if false = 0

-- how often k stands there
abbrev pub count : ℕ → List ℕ → ℕ
count k [] = 0
count k (y ∷ ys) = one_if (y == k) + count k ys

count-sum : (k : ℕ) (xs : List ℕ) → sum_by (λ y. one_if (y == k)) xs ≡ count k xs
count-sum k [] = refl
count-sum k (x ∷ xs) = sum_by-cons (λ y. one_if (y == k)) x xs ∙ ap (λ n. one_if (x == k) + n) (count-sum k xs)

at_most_one : (b : Bool) → one_if b ≤ 1
at_most_one true = omega arith
at_most_one false = omega arith

one-same : (x : ℕ) → one_if (x == x) ≡ 1
one-same x = let e : (x == x) ≡ true = grind (arith, nat_tests) in ap one_if e

one-other : (x y : ℕ) → (x ≡ y → ⊥) → one_if (x == y) ≡ 0
one-other x y h = let e : (x == y) ≡ false = grind (arith, nat_tests) in ap one_if e

Below-down : (x z : ℕ) (ys : List ℕ) → x ≤ z → Below z ys → Below x ys
Below-down x z [] le below = tt
Below-down x z (y ∷ ys) le below = (omega arith, Below-down x z ys le below.1)

-- what is less than all stands nowhere
count-none : (k z : ℕ) (ys : List ℕ) → k < z → Below z ys → count k ys ≡ 0
count-none k z [] lt below = refl
count-none k z (y ∷ ys) lt below =
    let le : z ≤ y = below.0 in
    let one : one_if (y == k) ≡ 0 = one-other y k (λ e. omega arith) in
    let rest : count k ys ≡ 0 = count-none k z ys lt below.1 in
    omega arith

-- which of two numbers is less
compared : (x y : ℕ) → (x < y) ⊎ ((x ≡ y) ⊎ (y < x))
compared zero zero = inr (inl refl)
compared zero (suc y) = inl (omega arith)
compared (suc x) zero = inr (inr (omega arith))
compared (suc x) (suc y) = elim (compared x y) [
  | inl h ↦ inl (omega arith)
  | inr h ↦ elim h [ inl e ↦ inr (inl (ap suc e)) | inr g ↦ inr (inr (omega arith)) ]
]

missing : (x y : ℕ) (xs ys : List ℕ) → x < y → Below y ys → count x (x ∷ xs) ≡ count x (y ∷ ys) → ⊥
missing x y xs ys lt below e =
    let here : one_if (x == x) ≡ 1 = one-same x in
    let there : one_if (y == x) ≡ 0 = one-other y x (λ e. omega arith) in
    let rest : count x ys ≡ 0 = count-none x y ys lt below in
    omega arith

-- lists that rise are one where each number stands as often in both
unique : (xs ys : List ℕ) → Rises xs → Rises ys → ((k : ℕ) → count k xs ≡ count k ys) → xs ≡ ys
unique [] [] r s same = refl
unique [] (y ∷ ys) r s same = let e = same y in let one : one_if (y == y) ≡ 1 = one-same y in absurd (omega arith)
unique (x ∷ xs) [] r s same = let e = same x in let one : one_if (x == x) ≡ 1 = one-same x in absurd (omega arith)
unique (x ∷ xs) (y ∷ ys) r s same = elim (compared x y) [
  | inl lt ↦ absurd (missing x y xs ys lt s.0 (same x))
  | inr h ↦ elim h [
    | inl e ↦
        let tails : xs ≡ ys = unique xs ys r.1 s.1 (λ k.
        let whole : one_if (x == k) + count k xs ≡ one_if (y == k) + count k ys = same k in
        let heads : one_if (x == k) ≡ one_if (y == k) = ap (λ z. one_if (z == k)) e in
        omega arith) in
        (cc)
    | inr gt ↦ absurd (missing y x ys xs gt r.0 (sym (same y)))
  ]
]

-- the ascending list
put-below : (z x : ℕ) (ys : List ℕ) → z ≤ x → Below z ys → Below z (put_in x ys)
put-below z x [] le below = (le, tt)
put-below z x (y ∷ ys) le below = elim (leb x y) as (λ b. Below z (cond b (x ∷ y ∷ ys) (y ∷ put_in x ys))) [
  | true ↦ (le, below)
  | false ↦ (below.0, put-below z x ys le below.1)
]

put-rises-by : (x y : ℕ) (ys : List ℕ) (b : Bool) → leb x y ≡ b → Rises (y ∷ ys) → Rises (put_in x ys) → Rises (cond b (x ∷ y ∷ ys) (y ∷ put_in x ys))
put-rises-by x y ys true e r rest = let le : x ≤ y = leb-true x y e in ((le, Below-down x y ys le r.0), r)
put-rises-by x y ys false e r rest = let le : y ≤ x = grind (arith, nat_tests) in (put-below y x ys le r.0, rest)

put-rises : (x : ℕ) (ys : List ℕ) → Rises ys → Rises (put_in x ys)
put-rises x [] r = (tt, tt)
put-rises x (y ∷ ys) r = put-rises-by x y ys (leb x y) refl r (put-rises x ys r.1)

put-count : (k x : ℕ) (ys : List ℕ) → count k (put_in x ys) ≡ one_if (x == k) + count k ys
put-count k x [] = refl
put-count k x (y ∷ ys) = elim (leb x y) as (λ b. count k (cond b (x ∷ y ∷ ys) (y ∷ put_in x ys)) ≡ one_if (x == k) + (one_if (y == k) + count k ys)) [
  | true ↦ refl
  | false ↦ let rest : count k (put_in x ys) ≡ one_if (x == k) + count k ys = put-count k x ys in omega arith
]

pub ascending-rises : (xs : List ℕ) → Rises (ascending xs)
ascending-rises [] = tt
ascending-rises (x ∷ xs) = put-rises x (ascending xs) (ascending-rises xs)

pub ascending-count : (k : ℕ) (xs : List ℕ) → count k (ascending xs) ≡ count k xs
ascending-count k [] = refl
ascending-count k (x ∷ xs) = put-count k x (ascending xs) ∙ ap (λ n. one_if (x == k) + n) (ascending-count k xs)

-- a list that does not fall rises
from_first : (x : ℕ) (ys : List ℕ) → ((j : ℕ) (d : ℕ) → j < length ys → x ≤ slice_index_or ys j d) → Below x ys
from_first x [] h = tt
from_first x (y ∷ ys) h = (h 0 0 (omega arith), from_first x ys (λ j d in'. h (suc j) d (omega arith)))

pub rises : (xs : List ℕ) → IsNonDecreasing xs → Rises xs
rises [] h = tt
rises (x ∷ xs) h = (from_first x xs (λ j d in'. h 0 (suc j) d (omega arith) (omega arith)), rises xs (λ i j d le in'. h (suc i) (suc j) d (omega arith) (omega arith)))

-- what a sort gives
pub sorted : (xs ys : List ℕ) → IsPermutation xs ys → IsSorted nat_cmp ys → ys ≡ ascending xs
sorted xs ys moved inorder =
    unique ys (ascending xs) (rises ys (IsNonDecreasingBy-from_sort (λ x. x) ys inorder)) (ascending-rises xs)
    (λ k. sym (count-sum k ys) ∙ (sum_by-IsPermutation (λ y. one_if (y == k)) xs ys moved ∙ (count-sum k xs ∙ sym (ascending-count k xs))))

put-length : (x : ℕ) (ys : List ℕ) → length (put_in x ys) ≡ suc (length ys)
put-length x [] = refl
put-length x (y ∷ ys) = elim (leb x y) as (λ b. length (cond b (x ∷ y ∷ ys) (y ∷ put_in x ys)) ≡ suc (suc (length ys))) [
  | true ↦ refl
  | false ↦ ap suc (put-length x ys)
]

pub ascending-length : (xs : List ℕ) → length (ascending xs) ≡ length xs
ascending-length [] = refl
ascending-length (x ∷ xs) = put-length x (ascending xs) ∙ ap suc (ascending-length xs)

and_swap : (a b c : Bool) → (a && (b && c)) ≡ (b && (a && c))
and_swap true true c = refl
and_swap true false c = refl
and_swap false true c = refl
and_swap false false c = refl

put-all : (p : ℕ → Bool) (x : ℕ) (ys : List ℕ) → list_all p (put_in x ys) ≡ (p x && list_all p ys)
put-all p x [] = refl
put-all p x (y ∷ ys) = elim (leb x y) as (λ b. list_all p (cond b (x ∷ y ∷ ys) (y ∷ put_in x ys)) ≡ (p x && (p y && list_all p ys))) [
  | true ↦ refl
  | false ↦ ap (λ b. p y && b) (put-all p x ys) ∙ and_swap (p y) (p x) (list_all p ys)
]

pub ascending-all : (p : ℕ → Bool) (xs : List ℕ) → list_all p (ascending xs) ≡ list_all p xs
ascending-all p [] = refl
ascending-all p (x ∷ xs) = put-all p x (ascending xs) ∙ ap (λ b. p x && b) (ascending-all p xs)

-- what differs from all stands nowhere among them
none-count : (x : ℕ) (ys : List ℕ) → list_any (λ q. x == q) ys ≡ false → count x ys ≡ 0
none-count x [] h = refl
none-count x (y ∷ ys) h =
    let apart : (x == y) ≡ false = left_false (x == y) (list_any (λ q. x == q) ys) h in
    let here : one_if (y == x) ≡ 0 = one-other y x (λ e. grind (arith, nat_tests)) in
    let rest : count x ys ≡ 0 = none-count x ys (right_false (x == y) (list_any (λ q. x == q) ys) h) in
    omega arith

pub differ-once : (k : ℕ) (xs : List ℕ) → all_differ (λ p q. p == q) xs ≡ true → count k xs ≤ 1
differ-once k [] h = omega arith
differ-once k (x ∷ xs) h = elim (compared x k) [
  | inl lt ↦ let here : one_if (x == k) ≡ 0 = one-other x k (λ e. omega arith) in let rest : count k xs ≤ 1 = differ-once k xs (right_true (not (list_any (λ q. x == q) xs)) (all_differ (λ p q. p == q) xs) h) in omega arith
  | inr g ↦ elim g [
    | inl e ↦
        let none : count x xs ≡ 0 = none-count x xs (not_true (list_any (λ q. x == q) xs) (left_true (not (list_any (λ q. x == q) xs)) (all_differ (λ p q. p == q) xs) h)) in
        let rest : count k xs ≡ 0 = ap (λ z. count z xs) (sym e) ∙ none in
        let here : one_if (x == k) ≤ 1 = at_most_one (x == k) in
        omega arith
    | inr gt ↦ let here : one_if (x == k) ≡ 0 = one-other x k (λ e. omega arith) in let rest : count k xs ≤ 1 = differ-once k xs (right_true (not (list_any (λ q. x == q) xs)) (all_differ (λ p q. p == q) xs) h) in omega arith
  ]
]

strictly : (xs : List ℕ) → Rises xs → ((k : ℕ) → count k xs ≤ 1) → (k : ℕ) → suc k < length xs → slice_index_or xs k 0 < slice_index_or xs (suc k) 0
strictly [] r once k lt = absurd (omega arith)
strictly (x ∷ []) r once k lt = absurd (omega arith)
strictly (x ∷ y ∷ ys) r once zero lt =
    let le : x ≤ y = r.0.0 in
    let whole : one_if (x == x) + (one_if (y == x) + count x ys) ≤ 1 = once x in
    let one : one_if (x == x) ≡ 1 = one-same x in
    elim (compared x y) [
      | inl lt ↦ lt
      | inr g ↦ elim g [
        | inl e ↦ let two : one_if (y == x) ≡ 1 = ap (λ z. one_if (y == z)) e ∙ one-same y in absurd (omega arith)
        | inr gt ↦ absurd (omega arith)
      ]
    ]
strictly (x ∷ y ∷ ys) r once (suc k) lt =
    strictly (y ∷ ys) r.1 (λ j. let whole : one_if (x == j) + count j (y ∷ ys) ≤ 1 = once j in omega arith) k (omega arith)

-- ascending numbers of which none stands twice
pub ascending-strictly : (xs : List ℕ) → all_differ (λ p q. p == q) xs ≡ true → IsStrictlyIncreasing (ascending xs)
ascending-strictly xs h k lt =
    let rise = strictly (ascending xs) (ascending-rises xs)
    (λ j. let same : count j (ascending xs) ≡ count j xs = ascending-count j xs in let once : count j xs ≤ 1 = differ-once j xs h in omega arith) k (omega arith) in
    rw (add-one k) rise

-- numbers that rise are in ascending order
pub ascending-same : (xs : List ℕ) → IsStrictlyIncreasing xs → ascending xs ≡ xs
ascending-same xs h =
    sym (unique xs (ascending xs) (rises xs (non_decreasing_from_sorted xs (sorted_from_strictly_increasing xs h))) (ascending-rises xs) (λ k. sym (ascending-count k xs)))
