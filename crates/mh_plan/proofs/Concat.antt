-- Lists one after another: their sums, and what holds of each item.
use Rattle.std.proofs.Common.{◌≡◌, ℕ, zero, suc, ◌≤◌, ◌<◌, List, [], ◌∷◌, Bool, true, cond, refl, arith, sym, ◌∙◌, ap, inl, inr, map}
use Rattle.std.specs.Prelude.{◌==◌, All}
use Rattle.std.specs.List.{sum_by}
use Rattle.std.proofs.lemmas.Bool.{cases_Bool, cases_lt, cond-false, cond-true, true≢false, or_left, or_right, or_cases, eqb-true, eq-eqb}
use Rattle.std.proofs.lemmas.List.Elements.{All-append}
use Rattle.std.proofs.lemmas.List.Folds.{list_any-append}
use Rattle.std.proofs.lemmas.List.Sums.{sum_by-append, sum_by-cons}
use Rattle.mh_network.specs.Sums.{sum_below}
use Rattle.mh_network.specs.Selection.{member}
use Rattle.mh_plan.specs.Joined.{joined}

pub joined_sum : {X : Type 0} (f : X → ℕ) (g : ℕ → List X) (n : ℕ) → sum_by f (joined g n) ≡ sum_below n (λ i. sum_by f (g i))
joined_sum f g zero = refl
joined_sum f g (suc n) = omega (arith, sum_by-append f (joined g n) (g n), joined_sum f g n)

pub joined_all : {X : Type 0} (R : X → Type 0) (g : ℕ → List X) (n : ℕ) → ((i : ℕ) → i < n → All R (g i)) → All R (joined g n)
joined_all R g zero h = λ k d l. absurd (omega (arith, l))
joined_all R g (suc n) h = All-append R (joined g n) (g n) (joined_all R g n (λ i l. h i (omega (arith, l)))) (h n (omega arith))

pub sum_map : {X Y : Type 0} (f : Y → ℕ) (g : X → Y) (xs : List X) → sum_by f (map g xs) ≡ sum_by (λ x. f (g x)) xs
sum_map f g [] = refl
sum_map f g (x ∷ xs) = omega (arith, sum_by-cons f (g x) (map g xs), sum_by-cons (λ y. f (g y)) x xs, sum_map f g xs)

-- a member of one list is a member of all together
pub joined_member : (g : ℕ → List ℕ) (n i x : ℕ) → i < n → member (g i) x ≡ true → member (joined g n) x ≡ true
joined_member g zero i x l e = absurd (omega arith)
joined_member g (suc n) i x l e =
    list_any-append (λ y. y == x) (joined g n) (g n)
    ∙ elim (cases_lt i n) [
      | inl below ↦ or_left (member (joined g n) x) (member (g n) x) (joined_member g n i x below e)
      | inr past ↦
          let same : i ≡ n = omega (arith, l, past) in
          or_right (member (joined g n) x) (member (g n) x) (sym (ap (λ (k : ℕ). member (g k) x) same) ∙ e)
    ]

-- and the other way round
pub joined_gives : (g : ℕ → List ℕ) (n x : ℕ) → member (joined g n) x ≡ true → (i : ℕ) × (i < n) × (member (g i) x ≡ true)
joined_gives g zero x e = absurd (true≢false (sym e))
joined_gives g (suc n) x e =
    elim (or_cases (member (joined g n) x) (member (g n) x) (sym (list_any-append (λ y. y == x) (joined g n) (g n)) ∙ e)) [
      | inl before ↦ let found = joined_gives g n x before in (found.0, omega (arith, found.1), found.2)
      | inr here ↦ (n, omega arith, here)
    ]

pub mapped_member : (f : ℕ → ℕ) (xs : List ℕ) (k : ℕ) → member xs k ≡ true → member (map f xs) (f k) ≡ true
mapped_member f [] k e = absurd (true≢false (sym e))
mapped_member f (x ∷ xs) k e =
    elim (or_cases (x == k) (member xs k) e) [
      | inl here ↦ or_left (f x == f k) (member (map f xs) (f k)) (eq-eqb (f x) (f k) (ap f (eqb-true x k here)))
      | inr later ↦ or_right (f x == f k) (member (map f xs) (f k)) (mapped_member f xs k later)
    ]

pub mapped_gives : (f : ℕ → ℕ) (xs : List ℕ) (y : ℕ) → member (map f xs) y ≡ true → (k : ℕ) × (member xs k ≡ true) × (f k ≡ y)
mapped_gives f [] y e = absurd (true≢false (sym e))
mapped_gives f (x ∷ xs) y e =
    elim (or_cases (f x == y) (member (map f xs) y) e) [
      | inl here ↦ (x, or_left (x == x) (member xs x) (eq-eqb x x refl), eqb-true (f x) y here)
      | inr later ↦
          let found = mapped_gives f xs y later in
          (found.0, or_right (x == found.0) (member xs found.0) found.1, found.2)
    ]

nothing_counts : (n : ℕ) (f : ℕ → ℕ) → ((i : ℕ) → i < n → f i ≡ 0) → sum_below n f ≡ 0
nothing_counts zero f h = refl
nothing_counts (suc n) f h = omega (arith, h n (omega arith), nothing_counts n f (λ i l. h i (omega (arith, l))))

-- terms of which one at most counts, and is within g
pub one_within : (n : ℕ) (A : ℕ → Bool) (f : ℕ → ℕ) (g : ℕ) → ((i k : ℕ) → i < n → k < n → A i ≡ true → A k ≡ true → i ≡ k) → ((i : ℕ) → i < n → f i ≤ cond (A i) g 0) → sum_below n f ≤ g
one_within zero A f g apart each = omega arith
one_within (suc n) A f g apart each =
    elim (cases_Bool (A n)) [
      | inl here ↦
          let before : sum_below n f ≡ 0 = nothing_counts n f (λ i l. elim (cases_Bool (A i)) [
            | inl there ↦ absurd (omega (arith, l, apart i n (omega (arith, l)) (omega arith) there here))
            | inr none ↦ omega (arith, each i (omega (arith, l)), cond-false (A i) g 0 none)
          ]) in
          omega (arith, before, each n (omega arith), cond-true (A n) g 0 here)
      | inr none ↦
          let rest : sum_below n f ≤ g = one_within n A f g (λ i k l m. apart i k (omega (arith, l)) (omega (arith, m))) (λ i l. each i (omega (arith, l))) in
          omega (arith, rest, each n (omega arith), cond-false (A n) g 0 none)
    ]
