-- Marked numbers, listed in ascending order.
use Rattle.std.proofs.Common.{◌≡◌, ℕ, ◌+◌, ◌≤◌, ◌<◌, List, [], ◌∷◌, ◌++◌, Bool, true, false, refl, arith, sym, ◌∙◌, ap, inl, inr, length, slice_index_or}
use Rattle.std.specs.Prelude.{◌==◌, ◌&&◌, ◌||◌, All, AllPairs, nat_lt}
use Rattle.std.specs.List.Sorted.{IsStrictlyIncreasing}
use Rattle.std.proofs.lemmas.Bool.{cases_lt, cases_eq, eq-eqb, ne_eqb, lt-ltb, le-ltb}
use Rattle.std.proofs.lemmas.List.Elements.{All-append, All-cons}
use Rattle.std.proofs.lemmas.List.Folds.{list_any-append}
use Rattle.std.proofs.lemmas.List.Quantifiers.{all_pairs_push}
use Rattle.std.proofs.lemmas.List.{get_or_past}
use Rattle.mh_network.specs.Selection.{member}

-- the marked numbers below n, ascending
pub record IsListed (marks : List Bool) (listed : List ℕ) (n : ℕ) : Type 0 where
  pub rising : AllPairs (λ x y. x < y) listed
  pub low : All (λ x. x < n) listed
  pub same : (j : ℕ) → member listed j ≡ (nat_lt j n && slice_index_or marks j false)

pub listed_none : (marks : List Bool) → IsListed marks [] 0
listed_none marks = record {
  rising = λ i j d l m. absurd (omega (arith, m));
  low = λ k d l. absurd (omega (arith, l));
  same = λ j. rw (le-ltb j 0 (omega arith)) refl;
}

or_false : (b : Bool) → (b || false) ≡ b
or_false true = refl
or_false false = refl

next_below : (n j : ℕ) (b : Bool) → (j ≡ n → ⊥) → (nat_lt j (n + 1) && b) ≡ (nat_lt j n && b)
next_below n j b other =
    elim (cases_lt j n) [
      | inl l ↦ rw (lt-ltb j n l, lt-ltb j (n + 1) (omega (arith, l))) refl
      | inr m ↦
          let past : n + 1 ≤ j = omega (arith, m, other) in
          rw (le-ltb j n m, le-ltb j (n + 1) past) refl
    ]

pub listed_more : (marks : List Bool) (listed : List ℕ) (n : ℕ) → IsListed marks listed n → slice_index_or marks n false ≡ true → IsListed marks (listed ++ n ∷ []) (n + 1)
listed_more marks listed n h e = record {
  rising = all_pairs_push (λ x y. x < y) listed n h.rising h.low;
  low = All-append (λ x. x < n + 1) listed (n ∷ []) (λ k d l. let below = h.low k d l in omega (arith, below)) (All-cons (λ x. x < n + 1) n [] (omega arith) (λ k d l. absurd (omega (arith, l))));
  same = λ j.
      let whole : member (listed ++ n ∷ []) j ≡ (member listed j || ((n == j) || false)) = list_any-append (λ x. x == j) listed (n ∷ []) in
      elim (cases_eq j n) [
        | inl here ↦
            let marked : slice_index_or marks j false ≡ true = ap (λ (i : ℕ). slice_index_or marks i false) here ∙ e in
            whole ∙ (rw (h.same j, le-ltb j n (omega (arith, here)), eq-eqb n j (sym here), lt-ltb j (n + 1) (omega (arith, here)), marked) refl)
        | inr other ↦
            whole ∙ (rw (ne_eqb n j (λ f. other (sym f)), next_below n j (slice_index_or marks j false) other, h.same j) (or_false (nat_lt j n && slice_index_or marks j false)))
      ];
}

pub listed_skip : (marks : List Bool) (listed : List ℕ) (n : ℕ) → IsListed marks listed n → slice_index_or marks n false ≡ false → IsListed marks listed (n + 1)
listed_skip marks listed n h e = record {
  rising = h.rising;
  low = λ k d l. let below = h.low k d l in omega (arith, below);
  same = λ j. elim (cases_eq j n) [
    | inl here ↦
        let unmarked : slice_index_or marks j false ≡ false = ap (λ (i : ℕ). slice_index_or marks i false) here ∙ e in
        rw (h.same j, le-ltb j n (omega (arith, here)), lt-ltb j (n + 1) (omega (arith, here)), unmarked) refl
    | inr other ↦ rw (next_below n j (slice_index_or marks j false) other, h.same j) refl
  ];
}

pub listed_end : (marks : List Bool) (listed : List ℕ) (n : ℕ) → IsListed marks listed n → length marks ≤ n → (j : ℕ) → member listed j ≡ slice_index_or marks j false
listed_end marks listed n h e j =
    elim (cases_lt j n) [
      | inl l ↦ rw (h.same j, lt-ltb j n l) refl
      | inr past ↦ rw (h.same j, le-ltb j n past, get_or_past marks j false (omega (arith, past, e))) refl
    ]

pub listed_rises : (marks : List Bool) (listed : List ℕ) (n : ℕ) → IsListed marks listed n → IsStrictlyIncreasing listed
listed_rises marks listed n h k l = h.rising k (k + 1) 0 (omega arith) l
