-- What a plan's flow gives and leaves, within the bounds of the problem.
use Rattle.std.proofs.Common.{◌≡◌, ℕ, suc, ◌+◌, ◌<◌, ◌≤◌, ◌==◌, Bool, true, false, cond, List, length, take, slice_index_or, sym, ap, ◌∙◌, arith, inl, inr, slice_set}
use Rattle.std.specs.Prelude.{All, ◌&&◌}
use Rattle.std.specs.List.{list_any, sum_by}
use Rattle.std.specs.List.Sorted.{IsStrictlyIncreasing}
use Rattle.std.proofs.Math.Bool.{or-false}
use Rattle.std.proofs.lemmas.Bool.{cases_eq, cases_lt, true≢false, eq-eqb, ne_eqb, cond-true, and_parts}
use Rattle.std.proofs.lemmas.List.{get_or_past, get_or_default, get_or-set_same, get_or-set_other, get_or-take, length-take-le}
use Rattle.std.proofs.lemmas.List.Folds.{list_any_more, list_any_none}
use Rattle.std.proofs.lemmas.List.Kept.{AllPairs-from_increasing}
use Rattle.std.proofs.lemmas.List.Sums.{sum_by_more_le, sum_by_more_le_part}
use Rattle.mh_network.specs.declared.link_row.LinkRow.{LinkRow}
use Rattle.mh_network.specs.Limits.{greatest_sum}
use Rattle.mh_network.specs.Problems.{ProblemData, IsProblem, link_at, no_link, gain_of, cost_of, needs_point, sum_of_gains}
use Rattle.mh_network.specs.Selection.{Row, member, into_point}
use Rattle.mh_network.specs.Sums.{sum_below, kept}
use Rattle.mh_network.specs.Laws.Members.{listed_sum, all_members}
use Rattle.mh_network.specs.Laws.Optimal.{some_below-gives}
use Rattle.mh_network.specs.Laws.SumLaws.{sum_below-le, sum_below-up}
use Rattle.mh_cert.specs.declared.plan.Plan.{Plan}
use Rattle.mh_cert.specs.Plans.{Matches}
use Rattle.mh_profile.specs.Accounts.{left_of}

-- ---- the links of a plan
eligible_inside : (P : ProblemData) (j : ℕ) → (link_at P j).eligible ≡ true → j < length P.links
eligible_inside P j e = elim (cases_lt j (length P.links)) [
  | inl inside ↦ inside
  | inr past ↦ absurd (true≢false (sym e ∙ ap (λ (l : LinkRow). l.eligible) (get_or_past P.links j no_link past)))
]

pub links_inside : (P : ProblemData) (plan : Plan) → Matches P plan → All (λ j. j < length P.links) plan.links
links_inside P plan h = λ k d lt. eligible_inside P (slice_index_or plan.links k d) (h.0 k d lt)

-- ---- bounds
cost_small : (P : ProblemData) (p : ℕ) → IsProblem P → cost_of P p ≤ greatest_sum
cost_small P p is = elim (cases_lt p (length P.costs)) [
  | inl inside ↦ let up = sum_below-up (length P.costs) (suc p) (cost_of P) inside in omega (arith, up, is.costs)
  | inr past ↦ omega (arith, get_or_past P.costs p 0 past)
]

pub row_inside : (P : ProblemData) (r : Row) → IsProblem P → needs_point P r.0 r.1 ≡ true → r.1 < length P.costs
row_inside P r is h = is.in_range r.0 r.1 h

-- one more row of the flow is within the cost of its point
pub row_room : (P : ProblemData) (flow : List Row) (i p : ℕ) → IsProblem P → i < length flow → ((q : ℕ) → into_point flow q ≤ cost_of P q)
    → (slice_index_or flow i (0, 0, 0)).1 ≡ p → into_point (take i flow) p + (slice_index_or flow i (0, 0, 0)).2 ≤ greatest_sum
row_room P flow i p is lt costs at =
    let row = slice_index_or flow i (0, 0, 0) in
    let more = sum_by_more_le (λ r. cond (r.1 == p) r.2 0) flow i (0, 0, 0) lt in
    let here = cond-true (row.1 == p) row.2 0 (eq-eqb row.1 p at) in
    omega (arith, more, here, costs p, cost_small P p is)

-- what is left of one link more is within all gains
pub left_room : (P : ProblemData) (plan : Plan) (p i : ℕ) → IsProblem P → Matches P plan → i < length plan.links
    → sum_by (λ j. cond (needs_point P j p) (left_of P plan j) 0) (take i plan.links) + left_of P plan (slice_index_or plan.links i 0) ≤ greatest_sum
left_room P plan p i is h lt =
    let link = slice_index_or plan.links i 0 in
    let each : (j : ℕ) → cond (needs_point P j p) (left_of P plan j) 0 ≤ gain_of P j =
    λ j. elim (needs_point P j p) as (λ (b : Bool). cond b (left_of P plan j) 0 ≤ gain_of P j) [ true ↦ omega arith | false ↦ omega arith ] in
    let more = sum_by_more_le_part (λ j. cond (needs_point P j p) (left_of P plan j) 0) (gain_of P) plan.links i 0 lt each in
    let all = listed_sum (gain_of P) (length P.links) plan.links h.1.0 (links_inside P plan h) in
    let some : sum_below (length P.links) (kept (member plan.links) (gain_of P)) ≤ sum_of_gains P =
    sum_below-le (length P.links) (kept (member plan.links) (gain_of P)) (gain_of P) (λ k below. elim (member plan.links k) as (λ (b : Bool). cond b (gain_of P k) 0 ≤ gain_of P k) [ true ↦ omega arith | false ↦ omega arith ]) in
    omega (arith, more, all, some, is.gains)

-- the points that a link needs are points of the problem
pub needs_inside : (P : ProblemData) (j : ℕ) → IsProblem P → All (λ p. p < length P.costs) (link_at P j).needs
needs_inside P j is = all_members (λ p. p < length P.costs) (link_at P j).needs (is.in_range j)

-- ---- an amount at each of some numbers
-- numbers that ascend do not have one of them before its place
not_before : (numbers : List ℕ) (i p : ℕ) → IsStrictlyIncreasing numbers → i < length numbers → slice_index_or numbers i 0 ≡ p → list_any (λ q. q == p) (take i numbers) ≡ false
not_before numbers i p up lt at =
    list_any_none (λ q. q == p) (take i numbers) (λ k d h.
    let short = length-take-le i numbers (omega arith) in
    let read = get_or-take i numbers k d (omega arith) in
    let below = AllPairs-from_increasing numbers up k i d (omega arith) lt in
    let same = get_or_default numbers i d 0 lt in
    ne_eqb (slice_index_or (take i numbers) k d) p (λ e. omega (arith, read, below, same, at, e)))

-- the amount at one number more
pub added_more : (sums before numbers : List ℕ) (i amount value p : ℕ) → IsStrictlyIncreasing numbers → i < length numbers → slice_index_or numbers i 0 < length sums
    → value ≡ slice_index_or sums (slice_index_or numbers i 0) 0 + amount
    → slice_index_or sums p 0 ≡ slice_index_or before p 0 + cond (list_any (λ q. q == p) (take i numbers)) amount 0
    → slice_index_or (slice_set sums (slice_index_or numbers i 0) value) p 0 ≡ slice_index_or before p 0 + cond (list_any (λ q. q == p) (take (i + 1) numbers)) amount 0
added_more sums before numbers i amount value p up lt inside is so_far =
    let at = slice_index_or numbers i 0 in
    let more = list_any_more (λ q. q == p) numbers i 0 lt in
    elim (cases_eq at p) [
      | inl same ↦
          let new = not_before numbers i p up lt same in
          let here : list_any (λ q. q == p) (take (i + 1) numbers) ≡ true = more ∙ rw new (eq-eqb at p same) in
          let set = ap (λ (k : ℕ). slice_index_or (slice_set sums at value) k 0) (sym same) ∙ get_or-set_same sums at value 0 inside in
          let none = ap (λ (b : Bool). cond b amount 0) new in
          let one = ap (λ (b : Bool). cond b amount 0) here in
          omega (arith, set, is, so_far, none, one, ap (λ (k : ℕ). slice_index_or sums k 0) same)
      | inr apart ↦
          let kept = get_or-set_other sums at p value 0 (λ e. apart (sym e)) in
          let none = ne_eqb at p apart in
          let same : list_any (λ q. q == p) (take (i + 1) numbers) ≡ list_any (λ q. q == p) (take i numbers) = more ∙ rw none (or-false (list_any (λ q. q == p) (take i numbers))) in
          kept ∙ (so_far ∙ ap (λ (b : Bool). slice_index_or before p 0 + cond b amount 0) (sym same))
    ]

-- the points of a plan are points of the problem
pub points_inside : (P : ProblemData) (plan : Plan) → IsProblem P → Matches P plan → All (λ p. p < length P.costs) plan.points
points_inside P plan is h =
    all_members (λ p. p < length P.costs) plan.points (λ p e.
    let needed = some_below-gives (length P.links) (λ j. member plan.links j && needs_point P j p) (sym (h.1.1.0.same p) ∙ e) in
    is.in_range needed.0 p (and_parts (member plan.links needed.0) (needs_point P needed.0 p) needed.2).1)
