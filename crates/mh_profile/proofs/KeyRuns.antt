-- The elements of one key in a list whose keys do not fall.
use Rattle.std.proofs.Common.{◌≡◌, ℕ, suc, ◌+◌, ◌-◌, ◌<◌, ◌≤◌, ◌==◌, Bool, true, false, not, cond, nat_lt, List, [], ◌∷◌, length, take, drop, filter, slice_index_or, refl, sym, subst, ap, ◌∙◌, arith, inl, inr}
use Rattle.std.specs.Prelude.{All, AllPairs, nat_le}
use Rattle.std.specs.List.Sorted.{IsNonDecreasingBy, IsPartitionPoint, IsStrictlyIncreasing}
use Rattle.std.specs.List.{list_any, sum_by}
use Rattle.std.proofs.lemmas.Bool.{cases_Bool, cases_eq, eq-eqb, ne_eqb, leb-false, leb-true, ltb-false, ltb-true}
use Rattle.std.proofs.lemmas.List.{take-append-drop, take_rest, append-nil, get_or-take, get_or-drop, length-drop, length-take-le}
use Rattle.std.proofs.lemmas.List.Elements.{All-head, All-tail, filter-append}
use Rattle.std.proofs.lemmas.List.Sorted.{IsNonDecreasingBy-drop}
use Rattle.std.proofs.lemmas.List.Sums.{sum_by-cons}
use Rattle.std.proofs.lemmas.List.Kept.{AllPairs-from_increasing}
use Rattle.mh_network.specs.Selection.{Row, Charge, IsBefore, IsChargeBefore}

none_kept : {X : Type 0} (p : X → Bool) (xs : List X) → All (λ x. p x ≡ false) xs → filter p xs ≡ []
none_kept p [] h = refl
none_kept p (x ∷ xs) h = rw (All-head (λ y. p y ≡ false) x xs h) (none_kept p xs (All-tail (λ y. p y ≡ false) x xs h))

all_kept : {X : Type 0} (p : X → Bool) (xs : List X) → All (λ x. p x ≡ true) xs → filter p xs ≡ xs
all_kept p [] h = refl
all_kept {X = X} p (x ∷ xs) h = rw (All-head (λ y. p y ≡ true) x xs h) (ap (λ (ys : List X). x ∷ ys) (all_kept p xs (All-tail (λ y. p y ≡ true) x xs h)))

-- some element passes where the list of those that pass is not empty
pub any_kept : {X : Type 0} (p : X → Bool) (xs : List X) → list_any p xs ≡ not (length (filter p xs) == 0)
any_kept p [] = refl
any_kept p (x ∷ xs) = elim (cases_Bool (p x)) [
  | inl here ↦ rw here (sym (ap not (ne_eqb (suc (length (filter p xs))) 0 (λ e. omega (arith, e)))))
  | inr other ↦ rw other (any_kept p xs)
]

one_kept : {X : Type 0} (f : X → ℕ) (b : Bool) (x : X) (xs : List X) → sum_by f (cond b (x ∷ xs) xs) ≡ cond b (f x) 0 + sum_by f xs
one_kept f true x xs = sum_by-cons f x xs
one_kept f false x xs = omega arith

-- what the elements that pass add up to
pub kept_sum : {X : Type 0} (p : X → Bool) (f : X → ℕ) (xs : List X) → sum_by f (filter p xs) ≡ sum_by (λ x. cond (p x) (f x) 0) xs
kept_sum p f [] = refl
kept_sum p f (x ∷ xs) =
    one_kept f (p x) x (filter p xs) ∙ (ap (λ (n : ℕ). cond (p x) (f x) 0 + n) (kept_sum p f xs) ∙ sym (sum_by-cons (λ y. cond (p y) (f y) 0) x xs))

-- a list in three pieces, of which only the one in the middle passes
pub middle_kept : {X : Type 0} (p : X → Bool) (xs : List X) (i j : ℕ) → All (λ x. p x ≡ false) (take i xs)
    → All (λ x. p x ≡ true) (take j (drop i xs)) → All (λ x. p x ≡ false) (drop j (drop i xs)) → take j (drop i xs) ≡ filter p xs
middle_kept p xs i j front middle back =
    let rest = drop i xs in
    let kept : filter p rest ≡ take j rest =
    sym (ap (filter p) (take-append-drop j rest)) ∙ (filter-append p (take j rest) (drop j rest) ∙ rw (all_kept p (take j rest) middle, none_kept p (drop j rest) back) (append-nil (take j rest))) in
    sym (sym (ap (filter p) (take-append-drop i xs)) ∙ (filter-append p (take i xs) rest ∙ rw (none_kept p (take i xs) front) kept))

module _ {X : Type 0} (n : X → ℕ) where
  -- pairs in order do not fall
  pub rising : (xs : List X) → AllPairs (λ x y. n x ≤ n y) xs → IsNonDecreasingBy n xs
  rising xs h i j d le lt = elim (cases_eq i j) [
    | inl same ↦ omega (arith, ap (λ (k : ℕ). n (slice_index_or xs k d)) same)
    | inr apart ↦ h i j d (omega arith) lt
  ]

  -- what two searches find: where the key is no longer below t, and in the rest where it is above it
  run_in : (xs : List X) (t i j : ℕ) → i ≤ length xs → j ≤ length (drop i xs)
      → IsPartitionPoint (λ y. nat_lt (n y) t ≡ true) (λ y. nat_lt (n y) t ≡ false) xs i
      → IsPartitionPoint (λ y. nat_le (n y) t ≡ true) (λ y. nat_le (n y) t ≡ false) (drop i xs) j
      → take j (drop i xs) ≡ filter (λ y. n y == t) xs
  run_in xs t i j few fewer first second =
      let rest = drop i xs in
      let long = length-drop i xs in
      let high : (k : ℕ) (d : X) → k < length rest → t ≤ n (slice_index_or rest k d) =
      λ k d h. let read = ap n (get_or-drop i xs k d) in omega (arith, ltb-false _ _ (first.1 (i + k) d (omega arith) (omega arith)), read) in
      middle_kept (λ y. n y == t) xs i j
      (λ k d h. let front = length-take-le i xs few in
      let read = ap n (get_or-take i xs k d (omega arith)) in
      ne_eqb (n (slice_index_or (take i xs) k d)) t (λ e. omega (arith, ltb-true _ _ (first.0 k d (omega arith) (omega arith)), read, e)))
      (λ k d h. let front = length-take-le j rest fewer in
      let read = ap n (get_or-take j rest k d (omega arith)) in
      eq-eqb (n (slice_index_or (take j rest) k d)) t (omega (arith, leb-true _ _ (second.0 k d (omega arith) (omega arith)), high k d (omega arith), read)))
      (λ k d h. let behind = length-drop j rest in
      let read = ap n (get_or-drop j rest k d) in
      ne_eqb (n (slice_index_or (drop j rest) k d)) t (λ e. omega (arith, leb-false _ _ (second.1 (j + k) d (omega arith) (omega arith)), read, e)))

  -- the same of the rest as it is read
  pub run_found : (xs : List X) (t i j : ℕ) → i ≤ length xs → j ≤ length (take (length xs - i) (drop i xs))
      → IsPartitionPoint (λ y. nat_lt (n y) t ≡ true) (λ y. nat_lt (n y) t ≡ false) xs i
      → IsPartitionPoint (λ y. nat_le (n y) t ≡ true) (λ y. nat_le (n y) t ≡ false) (take (length xs - i) (drop i xs)) j
      → take j (take (length xs - i) (drop i xs)) ≡ filter (λ y. n y == t) xs
  run_found xs t i j few fewer first second =
      let Found : List X → Type 0 = λ rest. j ≤ length rest → IsPartitionPoint (λ y. nat_le (n y) t ≡ true) (λ y. nat_le (n y) t ≡ false) rest j → take j rest ≡ filter (λ y. n y == t) xs in
      subst Found (sym (take_rest xs i)) (λ short parted. run_in xs t i j few short first parted) fewer second

  -- the keys of the rest, as it is read, do not fall either
  pub rest_rises : (xs : List X) (i : ℕ) → IsNonDecreasingBy n xs → IsNonDecreasingBy n (take (length xs - i) (drop i xs))
  rest_rises xs i up = subst (IsNonDecreasingBy n) (sym (take_rest xs i)) (IsNonDecreasingBy-drop n i xs up)

pub by_link : (flow : List Row) → AllPairs IsBefore flow → IsNonDecreasingBy (λ r. r.0) flow
by_link flow h = rising (λ (r : Row). r.0) flow (λ i j d lt within. elim (h i j d lt within) [ inl below ↦ omega arith | inr beside ↦ omega (arith, beside.0) ])

pub charges_by_link : (charges : List Charge) → AllPairs IsChargeBefore charges → IsNonDecreasingBy (λ r. r.0) charges
charges_by_link charges h = rising (λ (r : Charge). r.0) charges (λ i j d lt within. let below = h i j d lt within in omega arith)

pub numbers_rise : (numbers : List ℕ) → IsStrictlyIncreasing numbers → IsNonDecreasingBy (λ x. x) numbers
numbers_rise numbers h = rising (λ (x : ℕ). x) numbers (λ i j d lt within. let below = AllPairs-from_increasing numbers h i j d lt within in omega arith)
