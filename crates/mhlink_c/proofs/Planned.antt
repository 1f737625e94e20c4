-- What a plan of arrays is of.
use Rattle.std.proofs.Common.{◌≡◌, ◌+◌, ◌<◌, ◌≤◌, ℕ, List, true, arith, sym, ◌∙◌, ap, inl, inr, subst, length, take, drop, slice_index_or}
use Rattle.std.specs.Prelude.{◌==◌}
use Rattle.std.specs.List.{All, list_any, sum_by}
use Rattle.std.specs.List.Sorted.{IsStrictlyIncreasing}
use Rattle.std.proofs.lemmas.Bool.{cases_lt, true≢false}
use Rattle.std.proofs.lemmas.List.{get_or-map, get_or_past, length-map}
use Rattle.std.proofs.lemmas.List.FromFn.{length-map-range_with_len}
use Rattle.mh_base.specs.Tests.{Passes}
use Rattle.mh_cert.specs.Plans.{Matches}
use Rattle.mh_cert.specs.declared.plan.Plan.{Plan}
use Rattle.mh_network.specs.Laws.{large_problem}
use Rattle.mh_network.specs.Limits.{greatest_sum}
use Rattle.mh_network.specs.Problems as network
use Rattle.mh_network.specs.Problems.{IsProblem, ProblemData, gain_of, kept_row, large_tests, link_at, needs_point, problem_of, sum_of_gains}
use Rattle.mh_network.specs.Selection.{Charge, Row, from_link, into_charge, into_point, member, value_of}
use Rattle.mh_network.specs.declared.link_row.LinkRow.{LinkRow}
use Rattle.mhlink_c.specs.Flows.{AreAmounts, AreSums, IsRowOf, given_for, no_link}
use Rattle.mhlink_c.specs.Problems.{needs_of, row_of, rows_of}
use Rattle.mhlink_c.specs.declared.planning.MhlinkLink.{MhlinkLink}

-- what `amounts_are_within_gains` says
abbrev pub AreWithin : Type 0
AreWithin = (P : ProblemData) → (rows : List Row) → (charges : List Charge) → All (λ r. needs_point P r.0 r.1 ≡ true) rows → All (λ r. r.0 < length P.links) charges
    → ((j : ℕ) → from_link rows j + into_charge charges j ≤ gain_of P j) → value_of rows charges ≤ sum_of_gains P

module _ (needs : List ℕ) (links : List MhlinkLink) (costs : List ℕ) where
  abbrev pub P : ProblemData
  P = problem_of (rows_of needs links) costs

  pub as_many_links : length P.links ≡ length links
  as_many_links = length-map (rows_of needs links) kept_row ∙ length-map links (row_of needs)

  -- what needs a point is a link
  inside : (j p : ℕ) → needs_point P j p ≡ true → j < length links
  inside j p e =
      elim (cases_lt j (length P.links)) [
        | inl lt ↦ omega (arith, as_many_links, lt)
        | inr past ↦ absurd (true≢false (sym e ∙ ap (λ (l : LinkRow). list_any (λ q. q == p) l.needs) (get_or_past P.links j network.no_link past)))
      ]

  -- a link of the problem has the needs that it has among all
  own_needs : (j : ℕ) → j < length links → (link_at P j).needs ≡ needs_of needs (slice_index_or links j no_link)
  own_needs j lt =
      ap (λ (l : LinkRow). l.needs)
      (get_or-map kept_row (rows_of needs links) j (row_of needs no_link) network.no_link (omega (arith, length-map links (row_of needs), lt))
      ∙ ap kept_row (get_or-map (row_of needs) links j no_link (row_of needs no_link) lt))

  module _ (plan : Plan) (tested : Passes (large_tests (rows_of needs links) costs)) (is : Matches P plan) where
    problem : IsProblem P
    problem = large_problem (rows_of needs links) costs tested

    pub rows_are : All (IsRowOf needs links) plan.flow
    rows_are k d lt =
        let needed : needs_point P (slice_index_or plan.flow k d).0 (slice_index_or plan.flow k d).1 ≡ true = is.1.1.1.0.0.needed k d lt in
        let j : ℕ = (slice_index_or plan.flow k d).0 in
        let link : j < length links = inside j (slice_index_or plan.flow k d).1 needed in
        let own = own_needs j link in
        record {
          link = link;
          ascending = subst (λ (xs : List ℕ). IsStrictlyIncreasing xs) own (problem.ascending j);
          needed = subst (λ (xs : List ℕ). member xs (slice_index_or plan.flow k d).1 ≡ true) own needed;
        }

    pub points_are : All (λ r. r.1 < length costs) plan.flow
    points_are k d lt = problem.in_range (slice_index_or plan.flow k d).0 (slice_index_or plan.flow k d).1 (is.1.1.1.0.0.needed k d lt)

    -- what the rows and the charges carry
    pub small : AreWithin → (sum_by (λ r. r.2) plan.flow ≤ greatest_sum) × (sum_by (λ r. r.1) plan.charges ≤ greatest_sum)
    small within =
        let all = within P plan.flow plan.charges is.1.1.1.0.0.needed is.1.1.1.0.1.listed is.1.1.1.1.0 in
        (omega (arith, all, problem.gains), omega (arith, all, problem.gains))

-- how long the sums are
pub sums_long : (needs : List ℕ) (links : List MhlinkLink) (n : ℕ) (plan : Plan) (paid given gets : List ℕ) → AreSums needs links n plan paid given gets → (length paid ≡ length links) × (length given ≡ length needs) × (length gets ≡ n)
sums_long needs links n plan paid given gets are = (
  ap length are.by_link ∙ length-map-range_with_len (into_charge plan.charges) 0 (length links),
  ap length are.by_need ∙ length-map-range_with_len (given_for needs links plan.flow) 0 (length needs),
  ap length are.by_point ∙ length-map-range_with_len (into_point plan.flow) 0 n,
)

-- arrays that begin with the sums
pub sums_begin : (needs : List ℕ) (links : List MhlinkLink) (n : ℕ) (plan : Plan) (paid given gets a b c : List ℕ) → AreSums needs links n plan a b c → take (length a) paid ≡ a → take (length b) given ≡ b → take (length c) gets ≡ c → AreAmounts needs links n plan paid given gets
sums_begin needs links n plan paid given gets a b c are p g t =
    let long = sums_long needs links n plan a b c are in
    record {
      by_link = ap (λ (k : ℕ). take k paid) (sym long.0) ∙ p ∙ are.by_link;
      by_need = ap (λ (k : ℕ). take k given) (sym long.1) ∙ g ∙ are.by_need;
      by_point = ap (λ (k : ℕ). take k gets) (sym long.2) ∙ t ∙ are.by_point;
    }

-- what stands in an array behind so many numbers
pub rests : {slice items : List ℕ} (n : ℕ) (new old : List ℕ) → slice ≡ items → length items ≡ n → drop (length slice) new ≡ drop (length slice) old → drop n new ≡ drop n old
rests n new old same long h = subst (λ (k : ℕ). drop k new ≡ drop k old) (ap length same ∙ long) h

-- a slice of a list, of which an array has the numbers
pub begins : {slice items : List ℕ} (buffer : List ℕ) → slice ≡ items → take (length slice) buffer ≡ slice → take (length items) buffer ≡ items
begins {slice} {items} buffer same h = subst (λ (xs : List ℕ). take (length xs) buffer ≡ xs) same h
