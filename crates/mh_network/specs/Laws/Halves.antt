-- Sums over the intersection of two sets, over their difference, and over their union.
use Rattle.std.proofs.Common.{◌≡◌, ℕ, ◌+◌, ◌≤◌, Bool, true, false, cond, refl, arith, ◌∙◌, inl, inr, length}
use Rattle.std.specs.Prelude.{not, ◌&&◌, ◌||◌}
use Rattle.std.proofs.lemmas.Bool.{cases_Bool, and_parts, and_from, or_cases, or_left, or_right}
use Rattle.mh_network.specs.Sums.{sum_below, kept}
use Rattle.mh_network.specs.Problems.{ProblemData, needs_point}
use Rattle.mh_network.specs.Selection.{union_of_needs}
use Rattle.mh_network.specs.Laws.Members.{same_answer}
use Rattle.mh_network.specs.Laws.Optimal.{some_below-from, some_below-gives}
use Rattle.mh_network.specs.Laws.SumLaws.{sum_below-add, sum_below-le, sum_below-same, sum_below-split}

abbrev pub meet : (ℕ → Bool) → (ℕ → Bool) → ℕ → Bool
meet S A j = S j && A j

abbrev pub less : (ℕ → Bool) → (ℕ → Bool) → ℕ → Bool
less S A j = S j && not (A j)

abbrev pub join : (ℕ → Bool) → (ℕ → Bool) → ℕ → Bool
join S A j = S j || A j

-- every link of S is one of A
abbrev pub IsWithin : (ℕ → Bool) → (ℕ → Bool) → Type 0
IsWithin S A = (j : ℕ) → S j ≡ true → A j ≡ true

pub kept_meet : (S A : ℕ → Bool) (f : ℕ → ℕ) (k : ℕ) → kept A (kept S f) k ≡ kept (meet S A) f k
kept_meet S A f k = elim (S k) as (λ b. cond (A k) (cond b (f k) 0) 0 ≡ cond (b && A k) (f k) 0) [
  | true ↦ refl
  | false ↦ elim (A k) as (λ c. cond {A = ℕ} c 0 0 ≡ 0) [ true ↦ refl | false ↦ refl ]
]

-- a sum over a set is that over its half in A and that over the other
pub half_sums : (n : ℕ) (f : ℕ → ℕ) (S A : ℕ → Bool) → sum_below n (kept (meet S A) f) + sum_below n (kept (less S A) f) ≡ sum_below n (kept S f)
half_sums n f S A =
    let whole = sum_below-split n A (kept S f) in
    let first : sum_below n (kept A (kept S f)) ≡ sum_below n (kept (meet S A) f) = sum_below-same n _ _ (λ k l. kept_meet S A f k) in
    let second : sum_below n (kept (λ k. not (A k)) (kept S f)) ≡ sum_below n (kept (less S A) f) = sum_below-same n _ _ (λ k l. kept_meet S (λ i. not (A i)) f k) in
    omega arith

-- a sum over the union is that over A and that over the rest of S
joined : (s a : Bool) (c : ℕ) → cond (s || a) c 0 ≡ cond a c 0 + cond (s && not a) c 0
joined true true c = omega arith
joined true false c = omega arith
joined false true c = omega arith
joined false false c = omega arith

pub join_sums : (n : ℕ) (f : ℕ → ℕ) (S A : ℕ → Bool) → sum_below n (kept (join S A) f) ≡ sum_below n (kept A f) + sum_below n (kept (less S A) f)
join_sums n f S A = sum_below-same n _ _ (λ k l. joined (S k) (A k) (f k)) ∙ sum_below-add n (kept A f) (kept (less S A) f)

pub kept_within : (S A : ℕ → Bool) (f : ℕ → ℕ) (k : ℕ) → (S k ≡ true → A k ≡ true) → kept S f k ≤ kept A f k
kept_within S A f k h = elim (cases_Bool (S k)) [
  | inl e ↦ rw (e, h e) (omega arith)
  | inr e ↦ rw e (omega arith)
]

pub kept_more : (S : ℕ → Bool) (f g : ℕ → ℕ) (k : ℕ) → f k ≤ g k → kept S f k ≤ kept S g k
kept_more S f g k h = elim (S k) as (λ b. cond b (f k) 0 ≤ cond b (g k) 0) [ true ↦ h | false ↦ omega arith ]

-- a larger set needs no fewer points
pub needs_within : (P : ProblemData) (S A : ℕ → Bool) → IsWithin S A → IsWithin (union_of_needs P S) (union_of_needs P A)
needs_within P S A h p e =
    let found = some_below-gives (length P.links) (λ j. S j && needs_point P j p) e in
    let both = and_parts (S found.0) (needs_point P found.0 p) found.2 in
    some_below-from (length P.links) (λ j. A j && needs_point P j p) found.0 found.1 (and_from _ _ (h found.0 both.0) both.1)

-- the union needs what one of the sets needs
pub needs_joined : (P : ProblemData) (S A : ℕ → Bool) (p : ℕ) → union_of_needs P (join S A) p ≡ join (union_of_needs P S) (union_of_needs P A) p
needs_joined P S A p =
    same_answer (union_of_needs P (join S A) p) (join (union_of_needs P S) (union_of_needs P A) p)
    (λ e.
    let found = some_below-gives (length P.links) (λ j. join S A j && needs_point P j p) e in
    let both = and_parts (join S A found.0) (needs_point P found.0 p) found.2 in
    elim (or_cases (S found.0) (A found.0) both.0) [
      | inl one ↦ or_left _ _ (some_below-from (length P.links) (λ j. S j && needs_point P j p) found.0 found.1 (and_from _ _ one both.1))
      | inr two ↦ or_right _ _ (some_below-from (length P.links) (λ j. A j && needs_point P j p) found.0 found.1 (and_from _ _ two both.1))
    ])
    (λ e. elim (or_cases (union_of_needs P S p) (union_of_needs P A p) e) [
      | inl one ↦ needs_within P S (join S A) (λ j s. or_left (S j) (A j) s) p one
      | inr two ↦ needs_within P A (join S A) (λ j a. or_right (S j) (A j) a) p two
    ])

-- the cost of the points of the union is that of the points of A and that of the points that only S needs
pub join_costs : (P : ProblemData) (m : ℕ) (c : ℕ → ℕ) (S A : ℕ → Bool) →
    sum_below m (kept (union_of_needs P (join S A)) c) ≡ sum_below m (kept (union_of_needs P A) c) + sum_below m (kept (less (union_of_needs P S) (union_of_needs P A)) c)
join_costs P m c S A =
    sum_below-same m (kept (union_of_needs P (join S A)) c) (kept (join (union_of_needs P S) (union_of_needs P A)) c) (λ p l. rw (needs_joined P S A p) refl)
    ∙ join_sums m c (union_of_needs P S) (union_of_needs P A)

-- the cost of the points of the common links, and of those that only S needs, is at most the cost of the points of S
pub meet_costs : (P : ProblemData) (m : ℕ) (c : ℕ → ℕ) (S A : ℕ → Bool) →
    sum_below m (kept (union_of_needs P (meet S A)) c) + sum_below m (kept (less (union_of_needs P S) (union_of_needs P A)) c) ≤ sum_below m (kept (union_of_needs P S) c)
meet_costs P m c S A =
    let fewer : sum_below m (kept (union_of_needs P (meet S A)) c) ≤ sum_below m (kept (meet (union_of_needs P S) (union_of_needs P A)) c) =
    sum_below-le m _ _ (λ p l. kept_within (union_of_needs P (meet S A)) (meet (union_of_needs P S) (union_of_needs P A)) c p
    (λ e. and_from _ _ (needs_within P (meet S A) S (λ j b. (and_parts (S j) (A j) b).0) p e) (needs_within P (meet S A) A (λ j b. (and_parts (S j) (A j) b).1) p e))) in
    omega (arith, fewer, half_sums m c (union_of_needs P S) (union_of_needs P A))
