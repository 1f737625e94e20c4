-- The needs of a link: what is left of the numbers that were named, sorted and each once.
use Rattle.std.proofs.Common.{◌≡◌, ◌≤◌, ◌<◌, ◌+◌, ℕ, zero, suc, List, [], ◌∷◌, Bool, true, false, length, refl, sym, ap, ◌∙◌, subst, arith, inl, inr, nat_lt, nat_cmp, Ok, Err}
use Rattle.std.specs.Prelude.{◌==◌, ◌&&◌, ◌||◌, eqb}
use Rattle.std.specs.List.{All, AllPairs, dedup, dedup_from, list_all, range_with_len}
use Rattle.std.specs.List.Sorted.{IsPermutation, IsSorted, IsStrictlyIncreasing}
use Rattle.std.proofs.lemmas.Bool.{cases_Bool, true≢false, eqb-true, eq-eqb, ne_eqb, or_left}
use Rattle.std.proofs.lemmas.Bool.Decides.{nat_tests}
use Rattle.std.proofs.lemmas.List.Folds.{list_any_at, list_any_none}
use Rattle.std.proofs.lemmas.List.FromFn.{get_or-range_with_len, length-range_with_len}
use Rattle.std.proofs.lemmas.List.Kept.{AllPairs-from_increasing, IsStrictlyIncreasing-filter}
use Rattle.std.proofs.lemmas.List.Sorted.{list_any-IsPermutation}
use Rattle.std.proofs.lemmas.List.Sums.{AllPass-from_list_all}
use Rattle.std.proofs.lemmas.Map.Keys.{IsStrictlyIncreasing-dedup}
use Rattle.std.proofs.lemmas.Map.Views.{any-filter_same}
use Rattle.mh_network.specs.Laws.{member_is}
use Rattle.mh_network.specs.Selection.{member}
use Rattle.mh_json.specs.Misreads.{here}
use Rattle.mh_json.specs.declared.fault.InputFault.TheVariants.{NeedTwice}
use Rattle.mh_profile.specs.Profiles.{named_below, needs_among}

-- ---- lists of numbers that rise and have the same members are the same

among_first : (x : ℕ) (xs : List ℕ) → member (x ∷ xs) x ≡ true
among_first x xs = or_left (x == x) (member xs x) (eq-eqb x x refl)

abbrev Rises : List ℕ → Type 0
Rises xs = AllPairs (λ x y. x < y) xs

later : (x : ℕ) (xs : List ℕ) → Rises (x ∷ xs) → All (λ y. x < y) xs
later x xs up = λ i d l. up zero (suc i) d (omega arith) (omega arith)

rest_rises : (x : ℕ) (xs : List ℕ) → Rises (x ∷ xs) → Rises xs
rest_rises x xs up = λ i j d l b. up (suc i) (suc j) d (omega arith) (omega arith)

absent : (x : ℕ) (xs : List ℕ) → All (λ y. x < y) xs → member xs x ≡ false
absent x xs h = list_any_none (λ y. y == x) xs (λ k d l. let after = h k d l in ne_eqb _ x (λ e. absurd (omega arith)))

first_least : (x y : ℕ) (ys : List ℕ) → Rises (y ∷ ys) → member (y ∷ ys) x ≡ true → y ≤ x
first_least x y ys up e =
    elim (cases_Bool (y == x)) [
      | inl same ↦ let is = eqb-true y x same in omega arith
      | inr other ↦
          let among : member ys x ≡ true = rw other at e in
          let less = member_is (λ z. y < z) ys (later y ys up) x among in
          omega (arith, less)
    ]

tails : (x : ℕ) (xs ys : List ℕ) → Rises (x ∷ xs) → Rises (x ∷ ys) → ((j : ℕ) → member (x ∷ xs) j ≡ member (x ∷ ys) j) → (j : ℕ) → member xs j ≡ member ys j
tails x xs ys up vp same j =
    elim (cases_Bool (x == j)) [
      | inl is ↦ subst (λ i. member xs i ≡ member ys i) (eqb-true x j is) (absent x xs (later x xs up) ∙ sym (absent x ys (later x ys vp)))
      | inr other ↦ let both = same j in rw other at both
    ]

rising_same : (xs ys : List ℕ) → Rises xs → Rises ys → ((j : ℕ) → member xs j ≡ member ys j) → xs ≡ ys
rising_same [] [] up vp same = refl
rising_same [] (y ∷ ys) up vp same = absurd (true≢false (sym (same y ∙ among_first y ys)))
rising_same (x ∷ xs) [] up vp same = absurd (true≢false (sym (sym (same x) ∙ among_first x xs)))
rising_same (x ∷ xs) (y ∷ ys) up vp same =
    let one = first_least x y ys vp (sym (same x) ∙ among_first x xs) in
    let other = first_least y x xs up (same y ∙ among_first y ys) in
    let first : x ≡ y = omega (arith, one, other) in
    let vp′ : Rises (x ∷ ys) = subst (λ z. Rises (z ∷ ys)) (sym first) vp in
    let same′ : (j : ℕ) → member (x ∷ xs) j ≡ member (x ∷ ys) j = λ j. subst (λ z. member (x ∷ xs) j ≡ member (z ∷ ys) j) (sym first) (same j) in
    ap (λ zs. x ∷ zs) (rising_same xs ys (rest_rises x xs up) (rest_rises x ys vp′) (tails x xs ys up vp′ same′)) ∙ ap (λ z. z ∷ ys) first

-- ---- members are kept

or_twice : (a b : Bool) → (a || b) ≡ (a || (a || b))
or_twice true b = refl
or_twice false b = refl

dedup_from_members : (k : ℕ) (xs : List ℕ) (j : ℕ) → member (dedup_from eqb k xs) j ≡ ((k == j) || member xs j)
dedup_from_members k [] j = refl
dedup_from_members k (x ∷ xs) j =
    elim (cases_Bool (eqb x k)) [
      | inl is ↦ rw is (dedup_from_members k xs j ∙ (or_twice (k == j) (member xs j) ∙ ap (λ z. (k == j) || ((z == j) || member xs j)) (sym (eqb-true x k is))))
      | inr other ↦ rw other (ap (λ b. (k == j) || b) (dedup_from_members x xs j))
    ]

dedup_members : (xs : List ℕ) (j : ℕ) → member (dedup eqb xs) j ≡ member xs j
dedup_members [] j = refl
dedup_members (x ∷ xs) j = dedup_from_members x xs j

range_has : (n j : ℕ) → j < n → member (range_with_len 0 n) j ≡ true
range_has n j l =
    let all = length-range_with_len 0 n in
    let at = get_or-range_with_len 0 n j 0 l in
    list_any_at (λ q. q == j) (range_with_len 0 n) j 0 (omega (arith, all)) (eq-eqb _ j (omega (arith, at)))

range_rises : (n : ℕ) → IsStrictlyIncreasing (range_with_len 0 n)
range_rises n = λ k l.
    let all = length-range_with_len 0 n in
    let one = get_or-range_with_len 0 n k 0 (omega (arith, all, l)) in
    let next = get_or-range_with_len 0 n (k + 1) 0 (omega (arith, all, l)) in
    omega (arith, one, next)

and_true : (b r : Bool) → (b ≡ true → r ≡ true) → (b && r) ≡ b
and_true true r h = h refl
and_true false r h = refl

named_members : (n : ℕ) (named : List ℕ) → All (λ p. p < n) named → (j : ℕ) → member (named_below n named) j ≡ member named j
named_members n named below j =
    any-filter_same (λ x. x == j) (member named) (member named j) (λ k e. ap (member named) (eqb-true k j e)) (range_with_len 0 n)
    ∙ and_true (member named j) (member (range_with_len 0 n) j) (λ e. range_has n j (member_is (λ p. p < n) named below j e))

-- ---- what is left of what was named, all of it below a bound
module _ (n : ℕ) (named sorted needs : List ℕ) (moved : IsPermutation named sorted) (rises : IsSorted nat_cmp sorted) (is : needs ≡ dedup eqb sorted) (below : list_all (λ p. nat_lt p n) named ≡ true) where
  all_below : All (λ p. p < n) named
  all_below = λ k d l. let passes = AllPass-from_list_all (λ p. nat_lt p n) named below k d l in grind (arith, nat_tests)

  left : needs ≡ named_below n named
  left =
      is ∙ rising_same (dedup eqb sorted) (named_below n named) (AllPairs-from_increasing _ (IsStrictlyIncreasing-dedup sorted rises))
      (AllPairs-from_increasing _ (IsStrictlyIncreasing-filter (member named) (range_with_len 0 n) (range_rises n)))
      (λ j. dedup_members sorted j ∙ (sym (list_any-IsPermutation (λ q. q == j) named sorted moved) ∙ sym (named_members n named all_below j)))

  pub are_needs : length needs ≡ length named → needs_among n named ≡ Ok needs
  are_needs e =
      let all : (length (named_below n named) == length named) ≡ true = eq-eqb _ _ (ap length (sym left) ∙ e) in
      rw (below, all) (ap (λ xs. Ok xs) (sym left))

  pub are_twice : (length needs ≡ length named → ⊥) → needs_among n named ≡ Err (here NeedTwice)
  are_twice e =
      let fewer : (length (named_below n named) == length named) ≡ false = ne_eqb _ _ (λ same. e (ap length left ∙ same)) in
      rw (below, fewer) refl
