use Rattle.std.proofs.Common.{◌≡◌, ◌<◌, ◌≤◌, ◌+◌, ◌⊎◌, ℕ, List, length, arith, refl, cond, inl, inr, get_or-set_same, get_or-set_other}
use Rattle.std.specs.Prelude.{slice_set, nat_lt}
use Rattle.std.proofs.lemmas.List.Sums.{sum_by-set}
use Rattle.std.proofs.lemmas.Bool.{cases_eq, cases_lt, lt-ltb, le-ltb}
use Rattle.mh_flow.specs.Carried.{number_at}
use Rattle.mh_flow.specs.Levels.{far, reached_count, IsBounded}

set_level : (xs : List ℕ) (at v k : ℕ) → at < length xs → ((number_at (slice_set xs at v) k ≡ v) ⊎ (number_at (slice_set xs at v) k ≡ number_at xs k))
set_level xs at v k l = elim (cases_eq k at) [
  | inl e ↦ inl (rw (e, get_or-set_same) refl)
  | inr ne ↦ inr (rw get_or-set_other refl)
]

-- setting a level counts one more node, or lowers a level that was counted
counted_set : (xs : List ℕ) (at v : ℕ) → at < length xs → v < far →
    (reached_count (slice_set xs at v) ≡ reached_count xs + 1) ⊎ ((number_at xs at < far) × (reached_count (slice_set xs at v) ≡ reached_count xs))
counted_set xs at v l m =
    let e = sum_by-set (λ x. cond (nat_lt x far) 1 0) xs at v 0 l in
    let new : cond {A = ℕ} (nat_lt v far) 1 0 ≡ 1 = rw (lt-ltb v far m) refl in
    elim (cases_lt (number_at xs at) far) [
      | inl below ↦
          let old : cond {A = ℕ} (nat_lt (number_at xs at) far) 1 0 ≡ 1 = rw (lt-ltb (number_at xs at) far below) refl in
          inr (below, omega (arith, e, new, old))
      | inr above ↦
          let old : cond {A = ℕ} (nat_lt (number_at xs at) far) 1 0 ≡ 0 = rw (le-ltb (number_at xs at) far above) refl in
          inl (omega (arith, e, new, old))
    ]

bounds_set : (xs : List ℕ) (other at v : ℕ) → at < length xs → v < far → v < number_at xs at → v ≤ reached_count xs + other + 1 →
    ((k : ℕ) → number_at xs k < far → number_at xs k ≤ reached_count xs + other) →
    (reached_count xs ≤ reached_count (slice_set xs at v)) × ((k : ℕ) → number_at (slice_set xs at v) k < far → number_at (slice_set xs at v) k ≤ reached_count (slice_set xs at v) + other)
bounds_set xs other at v l m less up h =
    elim (counted_set xs at v l m) [
      | inl more ↦ (
        omega (arith, more),
        λ k below. elim (set_level xs at v k l) [
          | inl e ↦ omega (arith, e, more, up)
          | inr e ↦ omega (arith, e, more, h k)
        ],
      )
      | inr same ↦ (
        omega (arith, same.1),
        λ k below. elim (set_level xs at v k l) [
          | inl e ↦ omega (arith, e, same.1, h at same.0, less)
          | inr e ↦ omega (arith, e, same.1, h k)
        ],
      )
    ]

pub bounded_points : (links points : List ℕ) (at j : ℕ) → at < length points → number_at links j + 1 < far → number_at links j + 1 < number_at points at → IsBounded links points →
    IsBounded links (slice_set points at (number_at links j + 1))
bounded_points links points at j l m less b =
    let new = bounds_set points (reached_count links) at (number_at links j + 1) l m less (omega (arith, b.link_levels j)) (λ k below. omega (arith, b.point_levels k below)) in
    record {
      link_levels = λ k below. omega (arith, b.link_levels k below, new.0);
      point_levels = λ k below. omega (arith, new.1 k below);
    }

pub bounded_links : (links points : List ℕ) (at p : ℕ) → at < length links → number_at points p + 1 < far → number_at points p + 1 < number_at links at → IsBounded links points →
    IsBounded (slice_set links at (number_at points p + 1)) points
bounded_links links points at p l m less b =
    let new = bounds_set links (reached_count points) at (number_at points p + 1) l m less (omega (arith, b.point_levels p)) (λ k below. omega (arith, b.link_levels k below)) in
    record {
      link_levels = λ k below. omega (arith, new.1 k below);
      point_levels = λ k below. omega (arith, b.point_levels k below, new.0);
    }
