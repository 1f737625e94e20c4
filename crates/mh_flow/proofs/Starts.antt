use Rattle.std.proofs.Common.{◌≡◌, ◌<◌, ◌≤◌, ◌⊎◌, ℕ, zero, suc, List, [], ◌∷◌, length, arith, refl, ◌∙◌, ap, cond, inl, inr}
use Rattle.std.specs.Prelude.{map, replicate, nat_lt, All}
use Rattle.std.proofs.lemmas.Grind.{common_steps}
use Rattle.std.proofs.lemmas.Bool.{cases_lt, lt-ltb}
use Rattle.std.proofs.lemmas.List.Sums.{get_or-le-sum_by}
use Rattle.std.proofs.lemmas.List.{get_or_past}
use Rattle.mh_flow.specs.declared.need_row.NeedRow.{NeedRow}
use Rattle.mh_flow.specs.Carried.{row_at, no_row, number_at}
use Rattle.mh_flow.specs.Levels.{far, reached_count, ArePathLevels, IsSupported, IsBounded, IsLower}
use Rattle.mh_flow.specs.Run.{start_level}
use Rattle.mh_flow.specs.Spreads.{IsListed, IsLinkSettled}

pub start_at : (left : List ℕ) (j : ℕ) → j < length left → number_at (map start_level left) j ≡ start_level (number_at left j)
start_at [] j l = absurd (omega arith)
start_at (x ∷ xs) zero l = refl
start_at (x ∷ xs) (suc j) l = start_at xs j (omega arith)

pub start_length : (left : List ℕ) → length (map start_level left) ≡ length left
start_length left = grind (arith, common_steps)

far_at : (n p : ℕ) → p < n → number_at (replicate n far) p ≡ far
far_at zero p l = absurd (omega arith)
far_at (suc n) zero l = refl
far_at (suc n) (suc p) l = far_at n p (omega arith)

start-cases : (left : ℕ) → ((start_level left ≡ 1) × (0 < left)) ⊎ ((start_level left ≡ far) × (left ≡ 0))
start-cases zero = inr (refl, refl)
start-cases (suc n) = inl (rw (lt-ltb 0 (suc n) (omega arith)) refl, omega arith)

start_supported : (rows : List NeedRow) (left : List ℕ) (n : ℕ) → IsSupported rows left (map start_level left) (replicate n far)
start_supported rows left n = record {
  link_rows = λ j l below.
      let inside : j < length left = omega (arith, l, start_length left) in
      let level = start_at left j inside in
      elim (start-cases (number_at left j)) [
        | inl c ↦ inl (level ∙ c.0, c.1)
        | inr c ↦ absurd (omega (arith, level, c.0, below))
      ];
  point_rows = λ p l below.
      let inside : p < n = grind (arith, common_steps, l) in
      absurd (omega (arith, far_at n p inside, below));
}

counted_at : (levels : List ℕ) (j : ℕ) → j < length levels → number_at levels j < far → 1 ≤ reached_count levels
counted_at levels j l below =
    let e = get_or-le-sum_by (λ v. cond (nat_lt v far) 1 0) levels j 0 l in
    let one : cond {A = ℕ} (nat_lt (number_at levels j) far) 1 0 ≡ 1 = rw (lt-ltb (number_at levels j) far below) refl in
    omega (arith, e, one)

start_bounded : (left : List ℕ) (n : ℕ) → IsBounded (map start_level left) (replicate n far)
start_bounded left n = record {
  link_levels = λ j below.
      elim (cases_lt j (length left)) [
        | inl inside ↦
            let level = start_at left j inside in
            let some = counted_at (map start_level left) j (omega (arith, inside, start_length left)) below in
            elim (start-cases (number_at left j)) [
              | inl c ↦ omega (arith, level, c.0, some)
              | inr c ↦ absurd (omega (arith, level, c.0, below))
            ]
        | inr outside ↦ omega (arith, get_or_past (map start_level left) j 0 (omega (arith, outside, start_length left)))
      ];
  point_levels = λ p below.
      elim (cases_lt p n) [
        | inl inside ↦ absurd (omega (arith, far_at n p inside, below))
        | inr outside ↦
            let past : length (replicate n far) ≤ p = grind (arith, common_steps, outside) in
            omega (arith, get_or_past (replicate n far) p 0 past)
      ];
}

-- the levels with which a search begins
pub start_path_levels : (rows : List NeedRow) (left : List ℕ) (n : ℕ) → All (λ r. r.link < length left) rows → All (λ r. r.point < n) rows → ArePathLevels rows left (map start_level left) (replicate n far)
start_path_levels rows left n links points = record {
  range = record {
    link_range = λ k d l. omega (arith, links k d l, start_length left);
    point_range = λ k d l. grind (arith, common_steps, points k d l);
  };
  supported = start_supported rows left n;
  bounded = start_bounded left n;
}

pub spare_after : (left links : List ℕ) → IsLower (map start_level left) links → (j : ℕ) → 0 < number_at left j → number_at links j ≤ 1
spare_after left links lower j some =
    elim (cases_lt j (length left)) [
      | inl inside ↦
          let level = start_at left j inside in
          elim (start-cases (number_at left j)) [
            | inl c ↦ omega (arith, level, c.0, lower.lower j)
            | inr c ↦ absurd (omega (arith, c.1, some))
          ]
      | inr outside ↦ absurd (omega (arith, get_or_past left j 0 outside, some))
    ]

-- the links that the source does not reach at once have no level yet
pub start_waiting : (rows : List NeedRow) (left points front : List ℕ) → All (λ r. r.link < length left) rows → ((j : ℕ) → 0 < number_at left j → IsListed front j) → (j : ℕ) →
    IsListed front j ⊎ IsLinkSettled rows (map start_level left) points j
start_waiting rows left points front inside listed j =
    elim (cases_lt 0 (number_at left j)) [
      | inl some ↦ inl (listed j some)
      | inr none ↦ inr (λ k b e f.
          let level = start_at left (row_at rows k).link (inside k no_row b) in
          let same : number_at left (row_at rows k).link ≡ number_at left j = ap (number_at left) e in
          elim (start-cases (number_at left (row_at rows k).link)) [
            | inl c ↦ absurd (omega (arith, c.1, same, none))
            | inr c ↦ absurd (omega (arith, level, c.0, f))
          ])
    ]
