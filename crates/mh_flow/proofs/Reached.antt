-- Numbers that pass a test, listed as they rise.
use Rattle.std.proofs.Common.{◌≡◌, ◌<◌, ◌+◌, ℕ, List, [], ◌∷◌, ◌++◌, Bool, true, false, arith, refl, sym, ◌∙◌, ap, inl, inr}
use Rattle.std.specs.Prelude.{◌==◌, ◌&&◌, ◌||◌, All, AllPairs, nat_lt}
use Rattle.std.specs.List.Sorted.{IsStrictlyIncreasing}
use Rattle.std.proofs.lemmas.Bool.{cases_lt, cases_eq, eq-eqb, ne_eqb, lt-ltb, le-ltb}
use Rattle.std.proofs.lemmas.List.Elements.{All-append, All-cons}
use Rattle.std.proofs.lemmas.List.Folds.{list_any-append}
use Rattle.std.proofs.lemmas.List.Quantifiers.{all_pairs_push}
use Rattle.mh_network.specs.Selection.{member}

-- the numbers below n that pass, ascending
pub record ArePassing (passes : ℕ → Bool) (xs : List ℕ) (n : ℕ) : Type 0 where
  pub pairs : AllPairs (λ i j. i < j) xs
  pub low : All (λ i. i < n) xs
  pub same : (j : ℕ) → member xs j ≡ (nat_lt j n && passes j)

pub passing_none : (passes : ℕ → Bool) → ArePassing passes [] 0
passing_none passes = record {
  pairs = λ i j d l m. absurd (omega (arith, m));
  low = λ k d l. absurd (omega (arith, l));
  same = λ j. rw (le-ltb j 0 (omega arith)) refl;
}

-- up to n the next number changes nothing
next_below : (n j : ℕ) (b : Bool) → (j ≡ n → ⊥) → (nat_lt j (n + 1) && b) ≡ (nat_lt j n && b)
next_below n j b other =
    elim (cases_lt j n) [
      | inl l ↦ rw (lt-ltb j n l, lt-ltb j (n + 1) (omega (arith, l))) refl
      | inr m ↦ rw (le-ltb j n m, le-ltb j (n + 1) (omega (arith, m, other))) refl
    ]

or_false : (b : Bool) → (b || false) ≡ b
or_false true = refl
or_false false = refl

pub passing_more : (passes : ℕ → Bool) (xs : List ℕ) (n : ℕ) → ArePassing passes xs n → passes n ≡ true → ArePassing passes (xs ++ n ∷ []) (n + 1)
passing_more passes xs n h e = record {
  pairs = all_pairs_push (λ i j. i < j) xs n h.pairs h.low;
  low = All-append (λ i. i < n + 1) xs (n ∷ []) (λ k d l. let below = h.low k d l in omega (arith, below)) (All-cons (λ i. i < n + 1) n [] (omega arith) (λ k d l. absurd (omega (arith, l))));
  same = λ j.
      let whole : member (xs ++ n ∷ []) j ≡ (member xs j || ((n == j) || false)) = list_any-append (λ x. x == j) xs (n ∷ []) in
      elim (cases_eq j n) [
        | inl here ↦ whole ∙ (rw (h.same j, le-ltb j n (omega (arith, here)), eq-eqb n j (sym here), lt-ltb j (n + 1) (omega (arith, here)), ap passes here ∙ e) refl)
        | inr other ↦ whole ∙ (rw (ne_eqb n j (λ f. other (sym f)), next_below n j (passes j) other, h.same j) (or_false (nat_lt j n && passes j)))
      ];
}

pub passing_skip : (passes : ℕ → Bool) (xs : List ℕ) (n : ℕ) → ArePassing passes xs n → passes n ≡ false → ArePassing passes xs (n + 1)
passing_skip passes xs n h e = record {
  pairs = h.pairs;
  low = λ k d l. let below = h.low k d l in omega (arith, below);
  same = λ j. elim (cases_eq j n) [
    | inl here ↦ rw (h.same j, le-ltb j n (omega (arith, here)), lt-ltb j (n + 1) (omega (arith, here)), ap passes here ∙ e) refl
    | inr other ↦ rw (h.same j, next_below n j (passes j) other) refl
  ];
}

pub passing_rises : (passes : ℕ → Bool) (xs : List ℕ) (n : ℕ) → ArePassing passes xs n → IsStrictlyIncreasing xs
passing_rises passes xs n h k l = h.pairs k (k + 1) 0 (omega arith) l
