-- What links, points and amounts add up to.
use Rattle.std.proofs.Common.{◌≡◌, ℕ, ◌+◌, ◌≤◌, ◌<◌, List, Bool, true, false, cond, length, arith}
use Rattle.std.specs.List.{All, list_any, sum_by}
use Rattle.mh_network.specs.Sums.{sum_below, kept}
use Rattle.mh_network.specs.Problems.{ProblemData, gain_of, charge_of, cost_of, needs_point, sum_of_gains, sum_of_costs, sum_of_charges}
use Rattle.mh_network.specs.Selection.{Row, Charge, member, union_of_needs, gain_sum, cost_sum, charge_sum, from_link, into_charge, value_of}
use Rattle.mh_network.specs.Laws.SumLaws.{sum_below-add, sum_below-le, sum_by_keys}
use Rattle.mh_network.specs.Laws.Members.{some_member}
use Rattle.mh_network.specs.Laws.Optimal.{charges_by_link, needs-in_range}

kept-within : (S : ℕ → Bool) (f : ℕ → ℕ) (k : ℕ) → kept S f k ≤ f k
kept-within S f k = elim (S k) as (λ b. cond b (f k) 0 ≤ f k) [ true ↦ omega arith | false ↦ omega arith ]

-- a set of links gains no more than all links and is charged no more, and a set of points costs no more than all points
pub gains_within : (P : ProblemData) (S : ℕ → Bool) → gain_sum P S ≤ sum_of_gains P
gains_within P S = sum_below-le (length P.links) _ _ (λ k l. kept-within S (gain_of P) k)

pub costs_within : (P : ProblemData) (U : ℕ → Bool) → cost_sum P U ≤ sum_of_costs P
costs_within P U = sum_below-le (length P.costs) _ _ (λ k l. kept-within U (cost_of P) k)

pub charges_within : (P : ProblemData) (S : ℕ → Bool) → charge_sum P S ≤ sum_of_charges P
charges_within P S = sum_below-le (length P.links) _ _ (λ k l. kept-within S (charge_of P) k)

-- what the rows and the charges carry is within all gains
pub amounts_within : (P : ProblemData) (rows : List Row) (charges : List Charge) → All (λ r. needs_point P r.0 r.1 ≡ true) rows → All (λ r. r.0 < length P.links) charges →
    ((j : ℕ) → from_link rows j + into_charge charges j ≤ gain_of P j) → value_of rows charges ≤ sum_of_gains P
amounts_within P rows charges needed listed gains =
    let parts : sum_by (λ (r : Row). r.2) rows ≡ sum_below (length P.links) (from_link rows) =
    sum_by_keys (λ (r : Row). r.0) (λ r. r.2) (λ _. true) (length P.links) rows (λ k d l. needs-in_range P _ _ (needed k d l)) in
    let within : sum_below (length P.links) (λ j. from_link rows j + into_charge charges j) ≤ sum_of_gains P = sum_below-le (length P.links) _ _ (λ k l. gains k) in
    omega (arith, parts, within, charges_by_link P charges listed, sum_below-add (length P.links) (from_link rows) (into_charge charges))

-- the points that links need, as a search through the links
pub needed_by_some : (P : ProblemData) (links : List ℕ) (p : ℕ) → union_of_needs P (member links) p ≡ list_any (λ j. needs_point P j p) links
needed_by_some P links p = some_member (length P.links) (λ j. needs_point P j p) links (λ j e. needs-in_range P j p e)
