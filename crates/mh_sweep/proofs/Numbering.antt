-- Lists of numbers and the places of their members.
use Rattle.std.proofs.Common.{◌≡◌, ℕ, zero, suc, ◌≤◌, ◌<◌, ◌+◌, ◌-◌, List, [], ◌∷◌, true, refl, arith, sym, ◌∙◌, ap, inl, inr, length}
use Rattle.std.specs.Prelude.{◌==◌}
use Rattle.std.specs.List.{list_any, slice_index_or}
use Rattle.std.specs.List.Sorted.{IsStrictlyIncreasing}
use Rattle.std.proofs.lemmas.List.Kept.{AllPairs-from_increasing}
use Rattle.std.proofs.lemmas.Bool.{cases_Bool, cases_lt, true≢false, or_left, or_right, eq-eqb, eqb-true}
use Rattle.mh_network.specs.Parts.{place_of}
use Rattle.mh_network.specs.Selection.{member}

abbrev pub num : List ℕ → ℕ → ℕ
num xs k = slice_index_or xs k 0

pub place_in : (xs : List ℕ) (p : ℕ) → member xs p ≡ true → (place_of xs p < length xs) × (num xs (place_of xs p) ≡ p)
place_in [] p e = absurd (true≢false (sym e))
place_in (x ∷ xs) p e =
    elim (cases_Bool (x == p)) [
      | inl same ↦
          let at_start : place_of (x ∷ xs) p ≡ 0 = rw same refl in
          (omega (arith, at_start), ap (num (x ∷ xs)) at_start ∙ eqb-true x p same)
      | inr other ↦
          let rest = place_in xs p (rw other at e) in
          let later : place_of (x ∷ xs) p ≡ suc (place_of xs p) = rw other refl in
          (omega (arith, later, rest.0), ap (num (x ∷ xs)) later ∙ rest.1)
    ]

pub member_at : (xs : List ℕ) (k : ℕ) → k < length xs → member xs (num xs k) ≡ true
member_at [] k l = absurd (omega arith)
member_at (x ∷ xs) zero l = or_left (x == x) (list_any (λ q. q == x) xs) (eq-eqb x x refl)
member_at (x ∷ xs) (suc k) l = or_right (x == num xs k) (list_any (λ q. q == num xs k) xs) (member_at xs k (omega arith))

pub place_here : (xs : List ℕ) (k : ℕ) → IsStrictlyIncreasing xs → k < length xs → place_of xs (num xs k) ≡ k
place_here xs k rising l =
    let pairs = AllPairs-from_increasing xs rising in
    let there = place_in xs (num xs k) (member_at xs k l) in
    let m : ℕ = place_of xs (num xs k) in
    elim (cases_lt m k) [
      | inl below ↦ absurd (omega (arith, pairs m k 0 below l, there.1))
      | inr above ↦ elim (cases_lt k m) [
        | inl past ↦ absurd (omega (arith, pairs k m 0 past there.0, there.1))
        | inr not_past ↦ omega (arith, above, not_past)
      ]
    ]

-- a number that stands at some place of a list is a member of it
pub member_found : (xs : List ℕ) (p k : ℕ) → k < length xs → num xs k ≡ p → member xs p ≡ true
member_found xs p k l e = ap (λ q. member xs q) (sym e) ∙ member_at xs k l

above_place : (xs : List ℕ) → IsStrictlyIncreasing xs → (k : ℕ) → k < length xs → k ≤ num xs k
above_place xs h zero l = omega arith
above_place xs h (suc k) l =
    let next : k + 1 ≡ suc k = omega arith in
    omega (arith, above_place xs h k (omega arith), h k (omega arith), ap (num xs) next)

-- ascending numbers below n are at most n
pub ascending_few : (xs : List ℕ) (n : ℕ) → IsStrictlyIncreasing xs → ((j : ℕ) → member xs j ≡ true → j < n) → length xs ≤ n
ascending_few xs n h within =
    elim (cases_lt 0 (length xs)) [
      | inl some ↦
          let last : length xs - 1 < length xs = omega arith in
          omega (arith, above_place xs h (length xs - 1) last, within (num xs (length xs - 1)) (member_at xs (length xs - 1) last))
      | inr none ↦ omega arith
    ]
