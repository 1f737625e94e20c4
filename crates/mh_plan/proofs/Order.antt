-- Rows in order, by link and then point, and charges by link.
use Rattle.std.proofs.Common.{◌≡◌, ℕ, zero, suc, ◌+◌, ◌*◌, ◌≤◌, ◌<◌, List, [], ◌∷◌, Bool, true, cond, refl, arith, sym, inl, inr, length, get_or}
use Rattle.std.specs.Prelude.{◌==◌, ◌&&◌, All, AllPairs}
use Rattle.std.specs.List.{sum_by}
use Rattle.std.specs.List.Sorted.{IsNonDecreasingBy}
use Rattle.std.proofs.lemmas.Bool.{cases_Bool, cases_lt, eqb-true, eq-eqb, and_parts, and_from, cond-true, cond-false}
use Rattle.std.proofs.lemmas.List.Elements.{All-head, All-tail}
use Rattle.std.proofs.lemmas.List.Sums.{sum_by-cons, get_or-le-sum_by}
use Rattle.mh_network.specs.Selection.{Row, Charge, IsBefore, IsChargeBefore}
use Rattle.mh_plan.specs.Joined.{row_key, charge_key}

-- how many items pass
abbrev pub count : {X : Type 0} → (X → Bool) → List X → ℕ
count q xs = sum_by (λ x. cond (q x) 1 0) xs

pub none_pass : {X : Type 0} (q : X → Bool) (xs : List X) → All (λ x. q x ≡ true → ⊥) xs → count q xs ≡ 0
none_pass q [] h = refl
none_pass q (x ∷ xs) h =
    let here : cond {A = ℕ} (q x) 1 0 ≡ 0 = elim (cases_Bool (q x)) [
      | inl e ↦ absurd (All-head (λ y. q y ≡ true → ⊥) x xs h e)
      | inr e ↦ cond-false (q x) 1 0 e
    ] in
    omega (arith, here, sum_by-cons (λ y. cond (q y) 1 0) x xs, none_pass q xs (All-tail (λ y. q y ≡ true → ⊥) x xs h))

-- where no two items in order pass, one passes at most
pub one_passes : {X : Type 0} (R : X → X → Type 0) (q : X → Bool) → ((a b : X) → R a b → q a ≡ true → q b ≡ true → ⊥) → (xs : List X) → AllPairs R xs → count q xs ≤ 1
one_passes R q apart [] h = omega arith
one_passes R q apart (x ∷ xs) h =
    let whole : count q (x ∷ xs) ≡ cond (q x) 1 0 + count q xs = sum_by-cons (λ y. cond (q y) 1 0) x xs in
    elim (cases_Bool (q x)) [
      | inl e ↦
          let one : cond {A = ℕ} (q x) 1 0 ≡ 1 = cond-true (q x) 1 0 e in
          let others : count q xs ≡ 0 = none_pass q xs (λ k d l f. apart x (get_or xs k d) (h zero (suc k) d (omega arith) (omega (arith, l))) e f) in
          omega (arith, whole, one, others)
      | inr e ↦
          let none : cond {A = ℕ} (q x) 1 0 ≡ 0 = cond-false (q x) 1 0 e in
          omega (arith, whole, none, one_passes R q apart xs (λ i k d l m. h (suc i) (suc k) d (omega (arith, l)) (omega (arith, m))))
    ]

two_pass : {X : Type 0} (q : X → Bool) (xs : List X) (i k : ℕ) (d : X) → i < k → k < length xs → q (get_or xs i d) ≡ true → q (get_or xs k d) ≡ true → 2 ≤ count q xs
two_pass q [] i k d l m e f = absurd (omega (arith, m))
two_pass q (x ∷ xs) i zero d l m e f = absurd (omega (arith, l))
two_pass q (x ∷ xs) zero (suc k) d l m e f =
    let one : cond {A = ℕ} (q x) 1 0 ≡ 1 = cond-true (q x) 1 0 e in
    let later = get_or-le-sum_by (λ y. cond (q y) 1 0) xs k d (omega (arith, m)) in
    let other : cond {A = ℕ} (q (get_or xs k d)) 1 0 ≡ 1 = cond-true (q (get_or xs k d)) 1 0 f in
    omega (arith, one, later, other, sum_by-cons (λ y. cond (q y) 1 0) x xs)
two_pass q (x ∷ xs) (suc i) (suc k) d l m e f =
    omega (arith, two_pass q xs i k d (omega (arith, l)) (omega (arith, m)) e f, sum_by-cons (λ y. cond (q y) 1 0) x xs)

-- whether a row is of this link and point
abbrev pub is_at : ℕ → ℕ → Row → Bool
is_at j p r = (r.0 == j) && (r.1 == p)

pub rows_apart : (j p : ℕ) (a b : Row) → IsBefore a b → is_at j p a ≡ true → is_at j p b ≡ true → ⊥
rows_apart j p a b before e f =
    let here = and_parts (a.0 == j) (a.1 == p) e in
    let there = and_parts (b.0 == j) (b.1 == p) f in
    elim before [
      | inl less ↦ omega (arith, less, eqb-true a.0 j here.0, eqb-true b.0 j there.0)
      | inr tied ↦ omega (arith, tied.1, eqb-true a.1 p here.1, eqb-true b.1 p there.1)
    ]

-- rows sorted by key, none of them twice, are in order
pub sorted_ordered : (rows : List Row) → IsNonDecreasingBy row_key rows → All (λ r. r.1 < 4294967296) rows → ((j p : ℕ) → count (is_at j p) rows ≤ 1) → AllPairs IsBefore rows
sorted_ordered rows sorted small once i k d l m =
    let a : Row = get_or rows i d in
    let b : Row = get_or rows k d in
    let keys : a.0 * 4294967296 + a.1 ≤ b.0 * 4294967296 + b.1 = sorted i k d (omega (arith, l)) m in
    let first : a.1 < 4294967296 = small i d (omega (arith, l, m)) in
    let second : b.1 < 4294967296 = small k d m in
    elim (cases_lt a.0 b.0) [
      | inl less ↦ inl less
      | inr high ↦
          let tied : a.0 ≡ b.0 = omega (arith, high, keys, first, second) in
          elim (cases_lt a.1 b.1) [
            | inl less ↦ inr (tied, less)
            | inr above ↦
                let same : b.1 ≡ a.1 = omega (arith, above, keys, tied) in
                let here : is_at a.0 a.1 a ≡ true = and_from (a.0 == a.0) (a.1 == a.1) (eq-eqb a.0 a.0 refl) (eq-eqb a.1 a.1 refl) in
                let there : is_at a.0 a.1 b ≡ true = and_from (b.0 == a.0) (b.1 == a.1) (eq-eqb b.0 a.0 (sym tied)) (eq-eqb b.1 a.1 same) in
                absurd (omega (arith, two_pass (is_at a.0 a.1) rows i k d l m here there, once a.0 a.1))
          ]
    ]

pub charges_apart : (j : ℕ) (a b : Charge) → IsChargeBefore a b → (a.0 == j) ≡ true → (b.0 == j) ≡ true → ⊥
charges_apart j a b before e f = omega (arith, before, eqb-true a.0 j e, eqb-true b.0 j f)

-- charges sorted by link, none of them twice, are in order
pub charges_ordered : (charges : List Charge) → IsNonDecreasingBy charge_key charges → ((j : ℕ) → count (λ r. r.0 == j) charges ≤ 1) → AllPairs IsChargeBefore charges
charges_ordered charges sorted once i k d l m =
    let a : Charge = get_or charges i d in
    let b : Charge = get_or charges k d in
    let keys : a.0 ≤ b.0 = sorted i k d (omega (arith, l)) m in
    elim (cases_lt a.0 b.0) [
      | inl less ↦ less
      | inr high ↦
          let same : b.0 ≡ a.0 = omega (arith, high, keys) in
          absurd (omega (arith, two_pass (λ (r : Charge). r.0 == a.0) charges i k d l m (eq-eqb a.0 a.0 refl) (eq-eqb b.0 a.0 same), once a.0))
    ]
