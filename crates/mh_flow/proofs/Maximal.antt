-- Phase after phase, to the end of a run.
use Rattle.std.proofs.Common.{◌≡◌, ◌<◌, ◌≤◌, ◌+◌, ◌^◌, ℕ, List, length, arith, sym, ap, subst, inl, inr}
use Rattle.std.specs.Prelude.{All, AllPairs, nat_lt, pos, ◌+ℤ◌}
use Rattle.std.proofs.lemmas.Bool.{cases_lt}
use Rattle.std.proofs.lemmas.List.{get_or_past}
use Rattle.std.proofs.lemmas.List.Sums.{count_by-le-length}
use Rattle.mh_network.specs.Cuts.{CutsAreLeast}
use Rattle.mh_network.specs.Needs.{AreNeeds}
use Rattle.mh_network.specs.Problems.{ProblemData, IsProblem, sum_of_gains}
use Rattle.mh_network.specs.Selection.{IsBefore, IsChargeBefore, Row, Charge, IsFlow, IsLeast, worth, member, value_of}
use Rattle.mh_flow.specs.declared.need_row.NeedRow.{NeedRow}
use Rattle.mh_flow.specs.Carried.{row_at, no_row, number_at}
use Rattle.mh_flow.specs.Charged.{paid_charges}
use Rattle.mh_flow.specs.Levels.{far}
use Rattle.mh_flow.specs.LayerData.{LayerData, IsLayerRun, IsSameFlow, IsSinkLevel}
use Rattle.mh_flow.specs.inner.Over.{IsOpen, IsOver, IsSameLevels, IsRaised, IsBetween}
use Rattle.mh_flow.specs.Run.{IsLayered, is_reached, positive_rows}
use Rattle.mh_flow.specs.inner.Spent.{IsPhase}
use Rattle.mh_flow.proofs.Answered.{positive_flow, positive_some, positive_ordered, answered_equal, answered_least}
use Rattle.mh_flow.proofs.Blocked.{over_blocked, open_link, open_point}
use Rattle.mh_flow.proofs.Paying.{paid_ordered, paid_positive}
use Rattle.mh_flow.proofs.Phases.{sink_rises}
use Rattle.mh_flow.proofs.Ended.{run_end}

-- a level of a link is at least 1
link_low : (rows : List NeedRow) (left links points : List ℕ) → IsLayered rows left links points → (j : ℕ) → j < length links → number_at links j < far → 1 ≤ number_at links j
link_low rows left links points h j l f =
    elim (h.levels.supported.link_rows j l f) [
      | inl source ↦ omega (arith, source.0)
      | inr row ↦ omega (arith, row.4)
    ]

pub layered_phase : (rows : List NeedRow) (left links points : List ℕ) → IsLayered rows left links points → IsPhase rows left links points
layered_phase rows left links points h = record {
  settled = h.settled;
  spare = λ j some.
      let inside : j < length links = elim (cases_lt j (length links)) [
        | inl m ↦ m
        | inr m ↦ absurd (omega (arith, get_or_past left j 0 (omega (arith, m, h.link_count)), some))
      ] in
      omega (arith, h.spare j some, link_low rows left links points h j inside (omega (arith, h.spare j some)));
}

pub opened : (b : LayerData) → IsLayered b.rows b.gain_left b.links b.points → IsSinkLevel b.cost_left b.points b.sink → IsOpen b
opened b layered level = record { phase = layered_phase b.rows b.gain_left b.links b.points layered; sink = level.least }

low_levels : (b : LayerData) → IsLayerRun b → IsLayered b.rows b.gain_left b.links b.points → (p : ℕ) → number_at b.points p < far → number_at b.points p ≤ length b.problem.links + length b.problem.costs
low_levels b kept layered p f =
    omega (arith, layered.levels.bounded.point_levels p f, count_by-le-length (λ v. nat_lt v far) b.links, count_by-le-length (λ v. nat_lt v far) b.points, kept.link_levels, kept.point_levels)

-- each phase raises the level of the sink
pub raised_on : (a b : LayerData) → IsLayerRun a → IsLayerRun b → IsBetween a → IsSameFlow b a → b.phases ≡ a.phases + 1 → IsLayered b.rows b.gain_left b.links b.points → IsSinkLevel b.cost_left b.points b.sink →
    b.sink < far → (b.phases + 2 ≤ b.sink) × (b.sink ≤ length b.problem.links + length b.problem.costs + 1)
raised_on a b kept_a kept between same count layered level reached =
    let end = level.found reached in
    let p : ℕ = end.0 in
    let low : number_at b.points p < far = omega (arith, end.3, reached) in (
      elim between [
        | inl first ↦
            let row = layered.levels.supported.point_rows p end.1 low in
            let inside = layered.levels.range.link_range row.0 no_row row.1 in
            let above = link_low b.rows b.gain_left b.links b.points layered (row_at b.rows row.0).link inside (omega (arith, row.3, low)) in
            omega (arith, count, first, end.3, row.3, above)
        | inr raised ↦
            let here : IsLayered a.rows a.gain_left b.links b.points = rw (same.rows, same.gain_left) at layered in
            let room : 0 < number_at a.cost_left p = rw same.cost_left at end.2 in
            let up = sink_rises a.rows a.gain_left a.cost_left a.links a.points b.links b.points a.sink p (open_link a.gain_left raised.over.link_rows) (open_point raised.over.point_rows)
            raised.over.phase.phase (over_blocked a kept_a raised.over) here end.1 low room in
            omega (arith, count, up, end.3, raised.high)
      ],
      omega (arith, end.3, low_levels b kept layered p low),
    )

pub raised_after : (b c : LayerData) → (b.phases + 2 ≤ b.sink) × (b.sink ≤ length b.problem.links + length b.problem.costs + 1) → IsOver c → IsSameLevels b c → IsRaised c
raised_after b c h over same = record {
  over = over;
  high = omega (arith, h.0, same.phases, same.sink);
  low = omega (arith, h.1, same.sink, ap (λ (P : ProblemData). length P.links) same.problem, ap (λ (P : ProblemData). length P.costs) same.problem);
}

pub phases_few : (a : LayerData) → IsBetween a → a.phases ≤ length a.problem.links + length a.problem.costs
phases_few a between = elim between [ inl none ↦ omega (arith, none) | inr raised ↦ omega (arith, raised.high, raised.low) ]

pub phases_fit : (a : LayerData) → IsLayerRun a → IsBetween a → a.phases + 1 < 2 ^ 64
phases_fit a kept between = omega (arith, phases_few a between, kept.known.links, kept.known.points)

pub record IsAnswer (P : ProblemData) (rows : List Row) (charges : List Charge) (reached : List ℕ) : Type 0 where
  pub flow : IsFlow P rows charges
  pub positive : All (λ r. 0 < r.2) rows
  pub ordered : AllPairs IsBefore rows
  pub paid : All (λ r. 0 < r.1) charges
  pub paid_ordered : AllPairs IsChargeBefore charges
  pub equal : worth P (member reached) +ℤ pos (value_of rows charges) ≡ pos (sum_of_gains P)
  pub least : IsLeast P (member reached)

-- a run whose sink has no level is at its end
pub finished : (P : ProblemData) (b : LayerData) (rows : List Row) (charges : List Charge) (reached : List ℕ) → AreNeeds b.problem → (IsProblem b.problem → CutsAreLeast b.problem) → b.problem ≡ P → IsLayerRun b → IsLayered b.rows b.gain_left b.links b.points → IsSinkLevel b.cost_left b.points b.sink →
    far ≤ b.sink → rows ≡ positive_rows b.rows → charges ≡ paid_charges b.problem → ((j : ℕ) → member reached j ≡ is_reached b.links j) → IsAnswer P rows charges reached
finished P b rows charges reached needs cuts same kept layered level none e f members =
    let full : (p : ℕ) → p < length b.points → number_at b.points p < far → number_at b.cost_left p ≡ 0 = λ p l f.
    elim (cases_lt 0 (number_at b.cost_left p)) [
      | inl room ↦ absurd (omega (arith, level.least p l room, none, low_levels b kept layered p f, kept.known.links, kept.known.points))
      | inr empty ↦ omega (arith, empty)
    ] in
    let end = run_end b.problem b.rows b.gain_left b.cost_left b.links b.points needs (cuts kept.known) kept.known kept.run layered kept.point_levels full in
    let answer : IsAnswer b.problem (positive_rows b.rows) (paid_charges b.problem) reached = record {
      flow = positive_flow b.problem b.rows b.gain_left b.cost_left kept.run;
      positive = positive_some b.rows;
      ordered = positive_ordered b.rows kept.run.ordered;
      paid = paid_positive b.problem;
      paid_ordered = paid_ordered b.problem;
      equal = answered_equal b.problem b.rows (paid_charges b.problem) b.links reached members end.0;
      least = answered_least b.problem b.links reached members end.1;
    } in
    let listed : IsAnswer b.problem rows charges reached =
    subst (λ (rs : List Row). IsAnswer b.problem rs charges reached) (sym e) (subst (λ (cs : List Charge). IsAnswer b.problem (positive_rows b.rows) cs reached) (sym f) answer) in
    subst (λ (Q : ProblemData). IsAnswer Q rows charges reached) same listed
