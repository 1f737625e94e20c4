-- A block at a scale is a problem, where sums stay within the greatest.
use Rattle.std.proofs.Common.{◌≡◌, ℕ, ◌*◌, ◌-◌, ◌≤◌, List, Bool, false, cond, arith, sym, ◌∙◌, ap, length, subst}
use Rattle.std.specs.List.Sorted.{IsStrictlyIncreasing}
use Rattle.std.proofs.lemmas.List.{length-map}
use Rattle.std.proofs.lemmas.List.Kept.{IsStrictlyIncreasing-filter}
use Rattle.std.proofs.lemmas.Bool.{and_parts}
use Rattle.mh_network.specs.declared.link_row.LinkRow.{LinkRow}
use Rattle.mh_network.specs.declared.part.Part.{Part}
use Rattle.mh_network.specs.Sums.{sum_below}
use Rattle.mh_network.specs.Limits.{greatest_sum}
use Rattle.mh_network.specs.Problems.{IsProblem, ProblemData, charge_of, cost_of, gain_of, link_at, needs_point, sum_of_charges, sum_of_costs, sum_of_gains}
use Rattle.mh_network.specs.Selection.{member}
use Rattle.mh_network.specs.Blocks.{IsBlock, needing, needing_row, scaled_block}
use Rattle.mh_network.specs.Scales.{net_of, net_sum, scaled, weighed_row}
use Rattle.mh_network.specs.Laws.Between.{needing_at, needing_needs}
use Rattle.mh_network.specs.Laws.Nets.{every}
use Rattle.mh_network.specs.Laws.SumLaws.{sum_below-same, sum_below-zero}
use Rattle.mh_network.specs.Laws.Weighing.{times_sum, weighed_at, weighed_cost, weighed_needs}
use Rattle.mh_network.proofs.Contracting.{block_part, block_same, block_scaled}
use Rattle.mh_network.proofs.Parted.{part_is_problem}

none_left : (e : Bool) (g c : ℕ) → e ≡ false → 1000 * (cond e g 0 - c) ≡ 0
none_left e g c h = rw h (omega arith)

scaled_problem : (P : ProblemData) (k : ℕ) → IsProblem P → 1000 * net_sum P every ≤ greatest_sum → k * sum_of_costs P ≤ greatest_sum → IsProblem (scaled P k)
scaled_problem P k problem gains costs =
    let Q : ProblemData = scaled P k in
    let links : length Q.links ≡ length P.links = length-map P.links (weighed_row 1000) in
    let points : length Q.costs ≡ length P.costs = length-map P.costs (λ c. k * c) in
    let all_gains : sum_of_gains Q ≡ 1000 * net_sum P every =
    ap (λ (n : ℕ). sum_below n (gain_of Q)) links
    ∙ (sum_below-same (length P.links) (gain_of Q) (λ j. 1000 * net_of P j) (λ j l. ap (λ (r : LinkRow). r.gain) (weighed_at P 1000 k j)) ∙ times_sum (length P.links) 1000 every (net_of P)) in
    let all_costs : sum_of_costs Q ≡ k * sum_of_costs P =
    ap (λ (n : ℕ). sum_below n (cost_of Q)) points
    ∙ (sum_below-same (length P.costs) (cost_of Q) (λ p. k * cost_of P p) (λ p l. weighed_cost P 1000 k p) ∙ times_sum (length P.costs) k every (cost_of P)) in
    let all_charges : sum_of_charges Q ≡ 0 = sum_below-zero (length Q.links) (charge_of Q) (λ j l. ap (λ (r : LinkRow). r.charge) (weighed_at P 1000 k j)) in
    record {
      links = omega (arith, links, problem.links);
      points = omega (arith, points, problem.points);
      in_range = λ j p e. omega (arith, points, problem.in_range j p (sym (weighed_needs P 1000 k j p) ∙ e));
      ascending = λ j. subst (λ (ns : List ℕ). IsStrictlyIncreasing ns) (sym (ap (λ (r : LinkRow). r.needs) (weighed_at P 1000 k j))) (problem.ascending j);
      ineligible = λ j e.
          ap (λ (r : LinkRow). r.gain) (weighed_at P 1000 k j)
          ∙ none_left (link_at P j).eligible (gain_of P j) (charge_of P j) (sym (ap (λ (r : LinkRow). r.eligible) (weighed_at P 1000 k j)) ∙ e);
      gains = omega (arith, all_gains, gains);
      costs = omega (arith, all_costs, all_charges, costs);
    }

needing_problem : (P : ProblemData) (V : ℕ → Bool) → IsProblem P → IsProblem (needing P V)
needing_problem P V problem =
    let N : ProblemData = needing P V in
    let links : length N.links ≡ length P.links = length-map P.links (needing_row V) in
    let all_gains : sum_of_gains N ≡ sum_of_gains P =
    ap (λ (n : ℕ). sum_below n (gain_of N)) links ∙ sum_below-same (length P.links) (gain_of N) (gain_of P) (λ j l. ap (λ (r : LinkRow). r.gain) (needing_at P V j)) in
    let all_charges : sum_of_charges N ≡ sum_of_charges P =
    ap (λ (n : ℕ). sum_below n (charge_of N)) links ∙ sum_below-same (length P.links) (charge_of N) (charge_of P) (λ j l. ap (λ (r : LinkRow). r.charge) (needing_at P V j)) in
    record {
      links = omega (arith, links, problem.links);
      points = problem.points;
      in_range = λ j p e. problem.in_range j p (and_parts (V p) (needs_point P j p) (sym (needing_needs P V j p) ∙ e)).1;
      ascending = λ j. subst (λ (ns : List ℕ). IsStrictlyIncreasing ns) (sym (ap (λ (r : LinkRow). r.needs) (needing_at P V j))) (IsStrictlyIncreasing-filter V (link_at P j).needs (problem.ascending j));
      ineligible = λ j e. ap (λ (r : LinkRow). r.gain) (needing_at P V j) ∙ problem.ineligible j (sym (ap (λ (r : LinkRow). r.eligible) (needing_at P V j)) ∙ e);
      gains = omega (arith, all_gains, problem.gains);
      costs = omega (arith, all_charges, problem.costs);
    }

pub block_is_problem : (P : ProblemData) (k : ℕ) (low high : ℕ → Bool) (part : Part) → IsProblem P → 1000 * net_sum P every ≤ greatest_sum → k * sum_of_costs P ≤ greatest_sum → IsBlock P low high part →
    IsProblem (scaled_block P k part)
block_is_problem P k low high part problem gains costs block =
    let Q : ProblemData = scaled P k in
    let V : ℕ → Bool = member part.points in
    subst IsProblem (block_same P k part)
    (part_is_problem (needing Q V) part (block_part Q low high part (block_scaled P k low high part block)) (needing_problem Q V (scaled_problem P k problem gains costs)))
