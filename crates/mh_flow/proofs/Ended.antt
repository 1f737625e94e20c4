-- What a run has found at its end.
use Rattle.std.proofs.Common.{◌≡◌, ◌<◌, ◌+◌, ℕ, zero, suc, List, length, arith, sym, ◌∙◌, subst, Bool, true, inl, inr}
use Rattle.std.specs.Prelude.{nat_lt, filter, pos, ◌+ℤ◌}
use Rattle.std.proofs.lemmas.Bool.{lt-ltb, cases_Bool, and_parts, and_from, ltb-true}
use Rattle.std.proofs.lemmas.List.Sums.{count_by-le-length}
use Rattle.std.proofs.lemmas.List.Elements.{All-filter, All-from_get_or, All-map}
use Rattle.mh_network.specs.Cuts.{CutsAreLeast, IsClosed, IsCut}
use Rattle.mh_network.specs.Needs.{AreNeeds}
use Rattle.mh_network.specs.Problems.{ProblemData, IsProblem, gain_of, link_at, sum_of_gains}
use Rattle.mh_network.specs.Selection.{Row, IsLeast, union_of_needs, AllEligible, value_of, worth}
use Rattle.mh_flow.specs.declared.need_row.NeedRow.{NeedRow}
use Rattle.mh_flow.specs.Carried.{row_at, no_row, number_at}
use Rattle.mh_flow.specs.Charged.{paid_of, paid_charges}
use Rattle.mh_flow.specs.Levels.{far, reached_count}
use Rattle.mh_flow.specs.Run.{IsLayered, IsRun, is_reached, positive_rows, row_of}
use Rattle.mh_flow.proofs.Answered.{positive_at, positive_flow, positive_into, positive_out}
use Rattle.mh_flow.proofs.Paying.{paid_at, paid_whole, reached_gains}

-- what is reached lies in every closed set
reach_inside : (P : ProblemData) (rows : List NeedRow) (left cost_left links points : List ℕ) (A B : ℕ → Bool) →
    IsRun P rows left cost_left → IsLayered rows left links points → IsClosed P (positive_rows rows) (paid_charges P) A B → (n : ℕ) →
    ((j : ℕ) → j < length links → number_at links j < n → number_at links j < far → A j ≡ true)
    × ((p : ℕ) → p < length points → number_at points p < n → number_at points p < far → B p ≡ true)
reach_inside P rows left cost_left links points A B run layered closed zero = (λ j l m f. absurd (omega arith), λ p l m f. absurd (omega arith))
reach_inside P rows left cost_left links points A B run layered closed (suc n) =
    let below = reach_inside P rows left cost_left links points A B run layered closed n in (
      λ j l m f. elim (layered.levels.supported.link_rows j l f) [
        | inl source ↦ closed.spare j (omega (arith, l, layered.link_count, run.link_count)) (omega (arith, source.1, run.gains j, positive_out rows j, paid_at P j))
        | inr row ↦
            let inside : B (row_at rows row.0).point ≡ true =
            below.1 (row_at rows row.0).point (layered.levels.range.point_range row.0 no_row row.1) (omega (arith, row.4)) (omega (arith, row.4)) in
            subst (λ (i : ℕ). A i ≡ true) row.2 (positive_at (λ r. 0 < r.2 → B r.1 ≡ true → A r.0 ≡ true) rows closed.backward row.0 row.1 row.3 row.3 inside)
      ],
      λ p l m f.
          let row = layered.levels.supported.point_rows p l f in
          let inside : A (row_at rows row.0).link ≡ true =
          below.0 (row_at rows row.0).link (layered.levels.range.link_range row.0 no_row row.1) (omega (arith, row.3)) (omega (arith, row.3)) in
          subst (λ (i : ℕ). B i ≡ true) row.2 (closed.forward _ _ (run.needed row.0 no_row row.1) inside),
    )

pub reached-gives : (levels : List ℕ) (j : ℕ) → is_reached levels j ≡ true → (j < length levels) × (number_at levels j < far)
reached-gives levels j h =
    let both = and_parts (nat_lt j (length levels)) (nat_lt (number_at levels j) far) h in
    (ltb-true j (length levels) both.0, ltb-true (number_at levels j) far both.1)

pub reached-from : (levels : List ℕ) (j : ℕ) → j < length levels → number_at levels j < far → is_reached levels j ≡ true
reached-from levels j l m = and_from _ _ (lt-ltb j (length levels) l) (lt-ltb (number_at levels j) far m)

-- what is reached is worth what the flow leaves of all gains, and is least best
pub run_end : (P : ProblemData) (rows : List NeedRow) (left cost_left links points : List ℕ) → AreNeeds P → CutsAreLeast P → IsProblem P → IsRun P rows left cost_left → IsLayered rows left links points →
    length points ≡ length P.costs →
    ((p : ℕ) → p < length points → number_at points p < far → number_at cost_left p ≡ 0) →
    (worth P (is_reached links) +ℤ pos (value_of (positive_rows rows) (paid_charges P)) ≡ pos (sum_of_gains P)) × IsLeast P (is_reached links)
run_end P rows left cost_left links points needs cuts problem run layered count full =
    let R : ℕ → Bool = is_reached links in
    let Q : ℕ → Bool = is_reached points in
    let link_total : length links ≡ length P.links = sym layered.link_count ∙ run.link_count in
    let small : reached_count links + reached_count points + 1 < far =
    omega (arith, count_by-le-length (λ v. nat_lt v far) links, count_by-le-length (λ v. nat_lt v far) points, problem.links, problem.points, link_total, count) in
    let forth : (k : ℕ) → k < length rows → R (row_at rows k).link ≡ true → Q (row_at rows k).point ≡ true = λ k l h.
    let reached = reached-gives links (row_at rows k).link h in
    reached-from points (row_at rows k).point (layered.levels.range.point_range k no_row l)
    (omega (arith, (layered.settled k l).forth reached.1, layered.levels.bounded.link_levels (row_at rows k).link reached.1, small)) in
    let back : (k : ℕ) → k < length rows → 0 < (row_at rows k).amount → Q (row_at rows k).point ≡ true → R (row_at rows k).link ≡ true = λ k l some h.
    let reached = reached-gives points (row_at rows k).point h in
    reached-from links (row_at rows k).link (layered.levels.range.link_range k no_row l)
    (omega (arith, (layered.settled k l).back some reached.1, layered.levels.bounded.point_levels (row_at rows k).point reached.1, small)) in
    let gainful : (j : ℕ) → R j ≡ true → paid_of P j < gain_of P j = λ j h.
    let reached = reached-gives links j h in
    reached_gains P rows left cost_left links points run layered j reached.0 reached.1 in
    let eligible : AllEligible P R = λ j h.
    elim (cases_Bool (link_at P j).eligible) [
      | inl yes_it_is ↦ yes_it_is
      | inr barred ↦ absurd (omega (arith, gainful j h, problem.ineligible j barred))
    ] in
    let needed : (p : ℕ) → union_of_needs P R p ≡ true → Q p ≡ true = λ p h.
    let found = needs.some R p h in
    let row = run.complete found.0 p found.2 in
    let chosen : R (row_at rows row.0).link ≡ true = subst (λ (i : ℕ). R i ≡ true) (sym row.2) found.1 in
    subst (λ (i : ℕ). Q i ≡ true) row.3 (forth row.0 row.1 chosen) in
    let cut : IsCut P (positive_rows rows) (paid_charges P) R = record {
      eligible = eligible;
      closed = record {
        spare = λ j l less.
            let some : 0 < number_at left j = omega (arith, run.gains j, positive_out rows j, paid_at P j, less) in
            reached-from links j (omega (arith, l, link_total)) (omega (arith, layered.spare j some));
        forward = λ j p h chosen. needs.each R j p chosen h;
        backward = All-map (λ (r : Row). 0 < r.2 → union_of_needs P R r.1 ≡ true → R r.0 ≡ true) row_of (filter (λ (r : NeedRow). nat_lt 0 r.amount) rows)
            (All-filter (λ (r : NeedRow). nat_lt 0 r.amount) (λ (r : NeedRow). 0 < r.amount → union_of_needs P R r.point ≡ true → R r.link ≡ true) rows
            (All-from_get_or (λ (r : NeedRow). 0 < r.amount → union_of_needs P R r.point ≡ true → R r.link ≡ true) rows no_row (λ k l some h. back k l some (needed _ h))));
      };
      full = λ p h.
          let reached = reached-gives points p (needed p h) in
          omega (arith, run.costs p, full p reached.0 reached.1, positive_into rows p);
      charged = λ j h. omega (arith, paid_at P j, paid_whole P j (gainful j h));
    } in
    cuts (positive_rows rows) (paid_charges P) (positive_flow P rows left cost_left run) R cut
    (λ A B closed j h.
    let reached = reached-gives links j h in
    (reach_inside P rows left cost_left links points A B run layered closed far).0 j reached.0 reached.1 reached.1)
