use Rattle.std.proofs.Common.{◌≡◌, ◌≢◌, ◌<◌, ◌≤◌, ◌+◌, ◌⊎◌, ℕ, zero, suc, List, length, arith, ap, subst, Bool, true, inl, inr}
use Rattle.std.proofs.lemmas.Bool.{cases_lt, cases_eq}
use Rattle.mh_flow.specs.declared.need_row.NeedRow.{NeedRow}
use Rattle.mh_flow.specs.Carried.{row_at, number_at}
use Rattle.mh_flow.specs.Levels.{far}
use Rattle.mh_flow.specs.Run.{IsLayered}
use Rattle.mh_flow.specs.Paths.{IsPushed}
use Rattle.mh_flow.specs.inner.Spent.{IsPhase}

-- the phase is over: what the source reaches by edges that lead up one level lies in D and E, and there the sink is not next
pub record IsBlocked (rows : List NeedRow) (left cost_left links points : List ℕ) (sink : ℕ) (D E : ℕ → Bool) : Type 0 where
  pub start : (j : ℕ) → 0 < number_at left j → number_at links j ≡ 1 → D j ≡ true
  pub forth : (k : ℕ) → k < length rows → D (row_at rows k).link ≡ true → number_at points (row_at rows k).point ≡ number_at links (row_at rows k).link + 1 → E (row_at rows k).point ≡ true
  pub back : (k : ℕ) → k < length rows → 0 < (row_at rows k).amount → E (row_at rows k).point ≡ true → number_at links (row_at rows k).link ≡ number_at points (row_at rows k).point + 1 → D (row_at rows k).link ≡ true
  pub stop : (p : ℕ) → E p ≡ true → 0 < number_at cost_left p → number_at points p + 1 ≢ sink
  pub far_off : (p : ℕ) → 0 < number_at cost_left p → sink ≤ number_at points p + 1

-- a step up from a, in the old levels, where b is at most one above a
step : (D E : Bool) (a b n : ℕ) → b ≤ a + 1 → ((D ≡ true) → b ≡ a + 1 → E ≡ true) → ((a + 1 ≤ n) ⊎ ((a ≤ n) × (D ≡ true))) → (b + 1 ≤ n + 1) ⊎ ((b ≤ n + 1) × (E ≡ true))
step D E a b n up on (inl less) = inl (omega (arith, less, up))
step D E a b n up on (inr inside) =
    elim (cases_eq b (a + 1)) [
      | inl e ↦ inr (omega (arith, e, inside.0), on inside.1 e)
      | inr ne ↦ inl (omega (arith, inside.0, up, ne))
    ]

raise : (b n m : ℕ) (E : Bool) → n ≤ m → (b + 1 ≤ n) ⊎ ((b ≤ n) × (E ≡ true)) → (b + 1 ≤ m) ⊎ ((b ≤ m) × (E ≡ true))
raise b n m E l (inl h) = inl (omega (arith, h, l))
raise b n m E l (inr h) = inr (omega (arith, h.0, l), h.1)

below_far : (b n : ℕ) (E : Bool) → (b + 1 ≤ n) ⊎ ((b ≤ n) × (E ≡ true)) → n < far → b < far
below_far b n E (inl h) l = omega (arith, h, l)
below_far b n E (inr h) l = omega (arith, h.0, l)

-- new levels are above the old ones, or equal inside D and E
pub levels_rise : (rows : List NeedRow) (left cost_left links points links' points' : List ℕ) (sink : ℕ) (D E : ℕ → Bool) →
    IsPhase rows left links points → IsBlocked rows left cost_left links points sink D E → IsLayered rows left links' points' →
    (n : ℕ) →
    ((j : ℕ) → j < length links' → number_at links' j < n → number_at links' j < far → (number_at links j + 1 ≤ number_at links' j) ⊎ ((number_at links j ≤ number_at links' j) × (D j ≡ true)))
    × ((p : ℕ) → p < length points' → number_at points' p < n → number_at points' p < far → (number_at points p + 1 ≤ number_at points' p) ⊎ ((number_at points p ≤ number_at points' p) × (E p ≡ true)))
levels_rise rows left cost_left links points links' points' sink D E old blocked new zero = (λ j l m f. absurd (omega arith), λ p l m f. absurd (omega arith))
levels_rise rows left cost_left links points links' points' sink D E old blocked new (suc n) =
    let below = levels_rise rows left cost_left links points links' points' sink D E old blocked new n in (
      λ j l m f. elim (new.levels.supported.link_rows j l f) [
        | inl source ↦
            elim (cases_eq (number_at links j) 1) [
              | inl one ↦ inr (omega (arith, one, source.0), blocked.start j source.1 one)
              | inr other ↦ inl (omega (arith, old.spare j source.1, source.0, other))
            ]
        | inr row ↦
            let k : ℕ = row.0 in
            let lower : number_at points' (row_at rows k).point < far = omega (arith, row.4, f) in
            let before = below.1 (row_at rows k).point (new.levels.range.point_range k _ row.1) (omega (arith, row.4, m)) lower in
            let up = (old.settled k row.1).back row.3 (below_far (number_at points (row_at rows k).point) _ (E (row_at rows k).point) before lower) in
            let moved = step (E (row_at rows k).point) (D (row_at rows k).link) (number_at points (row_at rows k).point) (number_at links (row_at rows k).link) (number_at points' (row_at rows k).point)
            up (λ inside e. blocked.back k row.1 row.3 inside e) before in
            subst (λ (i : ℕ). (number_at links i + 1 ≤ number_at links' j) ⊎ ((number_at links i ≤ number_at links' j) × (D i ≡ true))) row.2
            (raise (number_at links (row_at rows k).link) _ (number_at links' j) (D (row_at rows k).link) row.4 moved)
      ],
      λ p l m f.
          let row = new.levels.supported.point_rows p l f in
          let k : ℕ = row.0 in
          let lower : number_at links' (row_at rows k).link < far = omega (arith, row.3, f) in
          let before = below.0 (row_at rows k).link (new.levels.range.link_range k _ row.1) (omega (arith, row.3, m)) lower in
          let up = (old.settled k row.1).forth (below_far (number_at links (row_at rows k).link) _ (D (row_at rows k).link) before lower) in
          let moved = step (D (row_at rows k).link) (E (row_at rows k).point) (number_at links (row_at rows k).link) (number_at points (row_at rows k).point) (number_at links' (row_at rows k).link)
          up (λ inside e. blocked.forth k row.1 inside e) before in
          subst (λ (i : ℕ). (number_at points i + 1 ≤ number_at points' p) ⊎ ((number_at points i ≤ number_at points' p) × (E i ≡ true))) row.2
          (raise (number_at points (row_at rows k).point) _ (number_at points' p) (E (row_at rows k).point) row.3 moved),
    )

-- the sink is farther away in the next phase
pub sink_rises : (rows : List NeedRow) (left cost_left links points links' points' : List ℕ) (sink p : ℕ) (D E : ℕ → Bool) →
    IsPhase rows left links points → IsBlocked rows left cost_left links points sink D E → IsLayered rows left links' points' →
    p < length points' → number_at points' p < far → 0 < number_at cost_left p → sink + 1 ≤ number_at points' p + 1
sink_rises rows left cost_left links points links' points' sink p D E old blocked new l f room =
    elim ((levels_rise rows left cost_left links points links' points' sink D E old blocked new far).1 p l f f) [
      | inl above ↦ omega (arith, above, blocked.far_off p room)
      | inr inside ↦ omega (arith, inside.0, blocked.far_off p room, blocked.stop p inside.1 room)
    ]

-- a push adds room on edges that lead down one level alone
pub levelling_kept : (old new : List NeedRow) (left left' links points : List ℕ) (top p d : ℕ) → IsPhase old left links points →
    IsPushed old new left left' (number_at links) (number_at points) top p d → IsPhase new left' links points
levelling_kept old new left left' links points top p d h pushed = record {
  settled = λ k l.
      let before = h.settled k (omega (arith, l, pushed.length)) in
      let same_link = ap (number_at links) (pushed.places k).link in
      let same_point = ap (number_at points) (pushed.places k).point in
      record {
        forth = λ f. omega (arith, same_link, same_point, f, before.forth);
        back = λ some f. elim (cases_lt 0 (row_at old k).amount) [
          | inl was ↦ omega (arith, same_link, same_point, f, was, before.back)
          | inr none ↦ omega (arith, same_link, same_point, pushed.grown k (omega (arith, none, some)))
        ];
      };
  spare = λ j some. h.spare j (omega (arith, pushed.less j, some));
}
