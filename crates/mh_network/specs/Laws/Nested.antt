-- If less is asked for the gains of links, more are chosen; and between two choices only the block between them is undecided.
use Rattle.std.proofs.Common.{◌≡◌, ℕ, ◌+◌, ◌≤◌, Bool, cond, refl, arith, sym, ◌∙◌, ap, length}
use Rattle.std.specs.Prelude.{◌&&◌}
use Rattle.std.proofs.Math.Path.{fun_ext}
use Rattle.std.proofs.lemmas.Bool.{and_parts}
use Rattle.mh_network.specs.Sums.{sum_below, some_below, kept}
use Rattle.mh_network.specs.Problems.{ProblemData, cost_of, needs_point}
use Rattle.mh_network.specs.Selection.{union_of_needs}
use Rattle.mh_network.specs.Scales.{DearerNest, IsCheaper, net_of, net_sum, paid}
use Rattle.mh_network.specs.Laws.Halves.{meet, less, join, IsWithin, half_sums, join_sums, join_costs, meet_costs, kept_more}
use Rattle.mh_network.specs.Laws.Nets.{IsNetBest, IsNetLeast, NetNoBetter, best_net, every, least_net}
use Rattle.mh_network.specs.Laws.SumLaws.{sum_below-le, sum_below-same}

-- two problems of the same links and points, of which P asks no more
module _ (P Q : ProblemData) (cheaper : IsCheaper P Q) where
  needs_same : (S : ℕ → Bool) (p : ℕ) → union_of_needs Q S p ≡ union_of_needs P S p
  needs_same S p =
      let links : some_below (length Q.links) (λ j. S j && needs_point Q j p) ≡ some_below (length P.links) (λ j. S j && needs_point Q j p) =
      ap (λ (n : ℕ). some_below n (λ j. S j && needs_point Q j p)) (sym cheaper.links) in
      let rows : (λ (j : ℕ). S j && needs_point Q j p) ≡ (λ (j : ℕ). S j && needs_point P j p) = fun_ext (λ j. ap (λ b. S j && b) (sym (cheaper.needs j p))) in
      links ∙ ap (some_below (length P.links)) rows

  -- Q's sums, over P's links and points
  nets_of : (S : ℕ → Bool) → net_sum Q S ≡ sum_below (length P.links) (kept S (net_of Q))
  nets_of S = ap (λ (n : ℕ). sum_below n (kept S (net_of Q))) (sym cheaper.links)

  paid_of : (S : ℕ → Bool) → paid Q S ≡ sum_below (length P.costs) (kept (union_of_needs P S) (cost_of Q))
  paid_of S =
      ap (λ (n : ℕ). sum_below n (kept (union_of_needs Q S) (cost_of Q))) (sym cheaper.points)
      ∙ sum_below-same (length P.costs) (kept (union_of_needs Q S) (cost_of Q)) (kept (union_of_needs P S) (cost_of Q)) (λ p l. ap (λ b. cond b (cost_of Q p) 0) (needs_same S p))

  nets_less : (S : ℕ → Bool) → sum_below (length P.links) (kept S (net_of Q)) ≤ sum_below (length P.links) (kept S (net_of P))
  nets_less S = sum_below-le (length P.links) _ _ (λ j l. kept_more S (net_of Q) (net_of P) j (cheaper.gains j))

  costs_more : (U : ℕ → Bool) → sum_below (length P.costs) (kept U (cost_of P)) ≤ sum_below (length P.costs) (kept U (cost_of Q))
  costs_more U = sum_below-le (length P.costs) _ _ (λ p l. kept_more U (cost_of P) (cost_of Q) p (cheaper.costs p))

  -- in Q nothing is lost with the links that a best set of P leaves out
  pub dearer_within : (S : ℕ → Bool) → IsNetBest P every S → (T : ℕ → Bool) → NetNoBetter Q T (meet T S)
  dearer_within S best T =
      let n : ℕ = length P.links in
      let m : ℕ = length P.costs in
      let over : ℕ → Bool = less T S in
      let points : ℕ → Bool = less (union_of_needs P T) (union_of_needs P S) in
      let both = best.greatest (join T S) (λ j e. refl) in
      let net_join : net_sum P (join T S) ≡ net_sum P S + sum_below n (kept over (net_of P)) = join_sums n (net_of P) T S in
      let cost_join : paid P (join T S) ≡ paid P S + sum_below m (kept points (cost_of P)) = join_costs P m (cost_of P) T S in
      let net_halves : sum_below n (kept (meet T S) (net_of Q)) + sum_below n (kept over (net_of Q)) ≡ sum_below n (kept T (net_of Q)) = half_sums n (net_of Q) T S in
      let cost_halves : sum_below m (kept (union_of_needs P (meet T S)) (cost_of Q)) + sum_below m (kept points (cost_of Q)) ≤ sum_below m (kept (union_of_needs P T) (cost_of Q)) = meet_costs P m (cost_of Q) T S in
      omega (arith, both, net_join, cost_join, net_halves, cost_halves, nets_less over, costs_more points, nets_of T, nets_of (meet T S), paid_of T, paid_of (meet T S))

  -- in P nothing is lost with the links that a best set of Q has
  pub cheaper_join : (S : ℕ → Bool) → IsNetBest Q every S → (T : ℕ → Bool) → NetNoBetter P T (join S T)
  cheaper_join S best T =
      let n : ℕ = length P.links in
      let m : ℕ = length P.costs in
      let over : ℕ → Bool = less S T in
      let points : ℕ → Bool = less (union_of_needs P S) (union_of_needs P T) in
      let both = best.greatest (meet S T) (λ j e. refl) in
      let net_join : net_sum P (join S T) ≡ net_sum P T + sum_below n (kept over (net_of P)) = join_sums n (net_of P) S T in
      let cost_join : paid P (join S T) ≡ paid P T + sum_below m (kept points (cost_of P)) = join_costs P m (cost_of P) S T in
      let net_halves : sum_below n (kept (meet S T) (net_of Q)) + sum_below n (kept over (net_of Q)) ≡ sum_below n (kept S (net_of Q)) = half_sums n (net_of Q) S T in
      let cost_halves : sum_below m (kept (union_of_needs P (meet S T)) (cost_of Q)) + sum_below m (kept points (cost_of Q)) ≤ sum_below m (kept (union_of_needs P S) (cost_of Q)) = meet_costs P m (cost_of Q) S T in
      omega (arith, both, net_join, cost_join, net_halves, cost_halves, nets_less over, costs_more points, nets_of S, nets_of (meet S T), paid_of S, paid_of (meet S T))

  pub net_nested : (S T : ℕ → Bool) → IsNetBest P every S → IsNetLeast Q every T → IsWithin T S
  net_nested S T best least j e =
      let within = dearer_within S best T in
      let other : IsNetBest Q every (meet T S) = record {
        inside = λ i f. refl;
        greatest = λ U f. omega (arith, within, least.best.greatest U f);
      } in
      (and_parts (T j) (S j) (least.least (meet T S) other j e)).1

  pub nested : DearerNest P Q
  nested S T best least = net_nested S T (best_net P S best) (least_net Q T least)
