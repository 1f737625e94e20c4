-- Consequences of the tests of rows and costs for the problem that is made.
use Rattle.std.proofs.Common.{◌≡◌, ℕ, zero, suc, ◌+◌, ◌≤◌, ◌<◌, List, [], ◌∷◌, true, false, refl, arith, sym, ◌∙◌, ap, length, map, take}
use Rattle.std.specs.Prelude.{◌==◌}
use Rattle.std.specs.List.{sum_by, sum, All, list_any, slice_index_or}
use Rattle.std.specs.List.Sorted.{IsStrictlyIncreasing}
use Rattle.std.proofs.lemmas.List.Sums.{sum_by-cons, fold_more}
use Rattle.std.proofs.lemmas.List.Elements.{All-head, All-tail}
use Rattle.std.proofs.lemmas.List.{length-map, take_all}
use Rattle.std.proofs.lemmas.Bool.{cond-false, true≢false}
use Rattle.mh_network.specs.declared.link_row.LinkRow.{LinkRow}
use Rattle.mh_network.specs.Sums.{sum_below}
use Rattle.mh_network.specs.Laws.Members.{member_is}
use Rattle.mh_base.specs.Limits.{most_needs}
use Rattle.mh_network.specs.Limits.{most_links, most_points, greatest_count}
use Rattle.mh_base.specs.Tests.{Passes}
use Rattle.mh_network.specs.Problems.{IsProblem, sum_of_gains, sum_of_costs, sum_of_charges, no_link, kept_gain, kept_row, problem_of, limited_tests, problem_tests, large_tests}

-- a sum by index is a sum over the list
sum_below-take : {X : Type 0} (f : X → ℕ) (d : X) (xs : List X) (k : ℕ) → k ≤ length xs → sum_below k (λ j. f (slice_index_or xs j d)) ≡ sum_by f (take k xs)
sum_below-take f d xs zero h = refl
sum_below-take f d xs (suc k) h =
    let more : sum_by f (take (k + 1) xs) ≡ sum_by f (take k xs) + f (slice_index_or xs k d) = fold_more (λ a x. a + f x) 0 xs k d (omega arith) in
    let below : sum_below k (λ j. f (slice_index_or xs j d)) ≡ sum_by f (take k xs) = sum_below-take f d xs k (omega arith) in
    let next : k + 1 ≡ suc k = omega arith in
    ap (λ s. s + f (slice_index_or xs k d)) below ∙ (sym more ∙ ap (λ (i : ℕ). sum_by f (take i xs)) next)

pub sum_below-list : {X : Type 0} (f : X → ℕ) (d : X) (xs : List X) → sum_below (length xs) (λ j. f (slice_index_or xs j d)) ≡ sum_by f xs
sum_below-list f d xs = sum_below-take f d xs (length xs) (omega arith) ∙ ap (sum_by f) (take_all (length xs) xs (omega arith))

gains_by_row : (rows : List LinkRow) → sum_by (λ (r : LinkRow). r.gain) (map kept_row rows) ≡ sum_by kept_gain rows
gains_by_row [] = refl
gains_by_row (r ∷ rs) =
    omega (arith, gains_by_row rs, sum_by-cons (λ (l : LinkRow). l.gain) (kept_row r) (map kept_row rs), sum_by-cons kept_gain r rs)

pub kept_gains : (rows : List LinkRow) (costs : List ℕ) → sum_of_gains (problem_of rows costs) ≡ sum_by kept_gain rows
kept_gains rows costs = sum_below-list (λ (r : LinkRow). r.gain) no_link (map kept_row rows) ∙ gains_by_row rows

pub kept_costs : (rows : List LinkRow) (costs : List ℕ) → sum_of_costs (problem_of rows costs) ≡ sum costs
kept_costs rows costs = sum_below-list (λ x. x) 0 costs

charges_by_row : (rows : List LinkRow) → sum_by (λ (r : LinkRow). r.charge) (map kept_row rows) ≡ sum_by (λ (r : LinkRow). r.charge) rows
charges_by_row [] = refl
charges_by_row (r ∷ rs) =
    omega (arith, charges_by_row rs, sum_by-cons (λ (l : LinkRow). l.charge) (kept_row r) (map kept_row rs), sum_by-cons (λ (l : LinkRow). l.charge) r rs)

pub kept_charges : (rows : List LinkRow) (costs : List ℕ) → sum_of_charges (problem_of rows costs) ≡ sum_by (λ (r : LinkRow). r.charge) rows
kept_charges rows costs = sum_below-list (λ (r : LinkRow). r.charge) no_link (map kept_row rows) ∙ charges_by_row rows

-- a fact of each kept row, and of the row past the last, holds of a link with any number
each_link : (Q : LinkRow → Type 0) → Q no_link → (rows : List LinkRow) → All (λ r. Q (kept_row r)) rows → (j : ℕ) → Q (slice_index_or (map kept_row rows) j no_link)
each_link Q none [] h j = none
each_link Q none (r ∷ rs) h zero = All-head (λ r. Q (kept_row r)) r rs h
each_link Q none (r ∷ rs) h (suc j) = each_link Q none rs (All-tail (λ r. Q (kept_row r)) r rs h) j

-- rows and costs that pass the tests make a problem, under any limits on links and points that are at most those of every problem
pub limited_problem : (links points needs : ℕ) (rows : List LinkRow) (costs : List ℕ) → links ≤ greatest_count → points ≤ greatest_count → Passes (limited_tests links points needs rows costs) → IsProblem (problem_of rows costs)
limited_problem links points needs rows costs few_links few_points h = record {
  links = simp length-map (omega (arith, h.0, few_links));
  points = omega (arith, h.1.0, few_points);
  in_range = each_link (λ r. (p : ℕ) → list_any (λ q. q == p) r.needs ≡ true → p < length costs) (λ p e. absurd (true≢false (sym e))) rows
      (λ k d l p e. member_is (λ q. q < length costs) (slice_index_or rows k d).needs (h.1.1.1.0 k d l) p e);
  ascending = each_link (λ r. IsStrictlyIncreasing r.needs) (λ k l. absurd (omega arith)) rows h.1.1.1.1.0;
  ineligible = each_link (λ r. r.eligible ≡ false → r.gain ≡ 0) (λ e. refl) rows (λ k d l e. cond-false (slice_index_or rows k d).eligible (slice_index_or rows k d).gain 0 e);
  gains = h.1.1.1.1.1.0;
  costs = h.1.1.1.1.1.1.0;
}

pub tested_problem : (rows : List LinkRow) (costs : List ℕ) → Passes (problem_tests rows costs) → IsProblem (problem_of rows costs)
tested_problem rows costs h = limited_problem most_links most_points most_needs rows costs (omega arith) (omega arith) h

pub large_problem : (rows : List LinkRow) (costs : List ℕ) → Passes (large_tests rows costs) → IsProblem (problem_of rows costs)
large_problem rows costs h = limited_problem greatest_count greatest_count greatest_count rows costs (omega arith) (omega arith) h
