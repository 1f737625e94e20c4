-- What links are worth in parts, and what flows carry there, adds up.
use Rattle.std.proofs.Common.{◌≡◌, ℕ, zero, suc, ◌+◌, ◌≤◌, ◌<◌, List, Bool, true, false, refl, arith, sym, ap, inl, inr, length}
use Rattle.std.specs.Prelude.{◌&&◌, pos, ◌+ℤ◌, ◌-ℤ◌}
use Rattle.std.proofs.lemmas.Int.{ints}
use Rattle.std.proofs.lemmas.Bool.{cases_Bool, true≢false, and_parts, cond-true, cond-false}
use Rattle.mh_network.specs.declared.part.Part.{Part}
use Rattle.mh_network.specs.Sums.{kept, sum_below}
use Rattle.mh_network.specs.Problems.{ProblemData, IsProblem, gain_of, charge_of, cost_of, needs_point, sum_of_gains}
use Rattle.mh_network.specs.Parts.{AreParts, part_at, part_problem, restricted}
use Rattle.mh_network.specs.Selection.{member, gain_sum, cost_sum, price, union_of_needs, worth}
use Rattle.mh_network.specs.Laws.Halves.{meet}
use Rattle.mh_network.proofs.Joining.{up_to, gain_split, price_split, meet_step, less_step, all_up, ArePartMasks}
use Rattle.mh_network.specs.Laws.Optimal.{some_below-from, some_below-gives}
use Rattle.mh_network.proofs.Parted.{every, part_gains}
use Rattle.mh_network.proofs.Renumbering.{gains_here, prices_here, part_of, part_masks}
use Rattle.mh_network.specs.Laws.SumLaws.{sum_below-same, sum_below-zero}

tight : (gain cost total flow : ℕ) → (pos gain -ℤ pos cost) +ℤ pos flow ≡ pos total → gain + flow ≡ total + cost
tight gain cost total flow h = omega (arith, ints, h)

loose : (gain cost total flow : ℕ) → gain + flow ≡ total + cost → (pos gain -ℤ pos cost) +ℤ pos flow ≡ pos total
loose gain cost total flow h = omega (arith, ints, h)

module _ (P : ProblemData) (problem : IsProblem P) (parts : List Part) (are : AreParts P parts) (S : ℕ → Bool) (within : (j : ℕ) → S j ≡ true → j < length P.links) (value : ℕ → ℕ)
    (each : (i : ℕ) → i < length parts → worth (part_problem P (part_at parts i)) (restricted S (part_at parts i)) +ℤ pos (value i) ≡ pos (sum_of_gains (part_problem P (part_at parts i)))) where
  abbrev mask : ℕ → ℕ → Bool
  mask i = member (part_at parts i).links

  abbrev masks : ArePartMasks P mask (length parts)
  masks = part_masks P parts are

  -- of each part, what its flow leaves of its gains is what its links are worth
  part_equal : (i : ℕ) → i < length parts →
      gain_sum P (meet S (mask i)) + value i ≡ gain_sum P (meet every (mask i)) + price P (meet S (mask i))
  part_equal i l =
      let Q : ProblemData = part_problem P (part_at parts i) in
      let R : ℕ → Bool = restricted S (part_at parts i) in
      let sums : gain_sum Q R + value i ≡ sum_of_gains Q + price Q R = tight _ _ _ _ (each i l) in
      omega (
        arith,
        sums,
        part_gains P (part_at parts i) (part_of P parts problem are i) problem,
        gains_here P (part_at parts i) (part_of P parts problem are i) S,
        prices_here P (part_at parts i) (part_of P parts problem are i) S,
      )

  links_at_first : (f : ℕ → ℕ) (T : ℕ → Bool) → sum_below (length P.links) (kept (meet T (up_to mask zero)) f) ≡ 0
  links_at_first f T =
      sum_below-zero (length P.links) _ (λ j l. cond-false (meet T (up_to mask zero) j) (f j) 0
      (elim (T j) as (λ b. (b && false) ≡ false) [ true ↦ refl | false ↦ refl ]))

  costs_at_first : (T : ℕ → Bool) → cost_sum P (union_of_needs P (meet T (up_to mask zero))) ≡ 0
  costs_at_first T =
      sum_below-zero (length P.costs) _ (λ p l. cond-false (union_of_needs P (meet T (up_to mask zero)) p) (cost_of P p) 0
      (elim (cases_Bool (union_of_needs P (meet T (up_to mask zero)) p)) [
        | inl e ↦
            let got = some_below-gives (length P.links) (λ j. meet T (up_to mask zero) j && needs_point P j p) e in
            absurd (true≢false (sym (and_parts (T got.0) false (and_parts (meet T (up_to mask zero) got.0) (needs_point P got.0 p) got.2).0).1))
        | inr e ↦ e
      ]))

  prefix_equal : (i : ℕ) → i ≤ length parts →
      gain_sum P (meet S (up_to mask i)) + sum_below i value ≡ gain_sum P (meet every (up_to mask i)) + price P (meet S (up_to mask i))
  prefix_equal zero l = omega (arith, links_at_first (gain_of P) S, links_at_first (charge_of P) S, costs_at_first S, links_at_first (gain_of P) every)
  prefix_equal (suc i) l =
      let inside : i < length parts = omega (arith, l) in
      let U : ℕ → Bool = meet S (up_to mask (suc i)) in
      let T : ℕ → Bool = meet every (up_to mask (suc i)) in
      let before = prefix_equal i (omega (arith, l)) in
      let more = part_equal i inside in
      let gains : gain_sum P (meet S (mask i)) + gain_sum P (meet S (up_to mask i)) ≡ gain_sum P U =
      rw (meet_step mask S i, less_step P mask (length parts) S i masks inside) at (gain_split P U (mask i)) in
      let prices : price P (meet S (mask i)) + price P (meet S (up_to mask i)) ≡ price P U =
      rw (meet_step mask S i, less_step P mask (length parts) S i masks inside) at (price_split P U (mask i) (masks.separate i inside)) in
      let all : gain_sum P (meet every (mask i)) + gain_sum P (meet every (up_to mask i)) ≡ gain_sum P T =
      rw (meet_step mask every i, less_step P mask (length parts) every i masks inside) at (gain_split P T (mask i)) in
      omega (arith, before, more, gains, prices, all)

  pub added_up : worth P S +ℤ pos (sum_below (length parts) value) ≡ pos (sum_of_gains P)
  added_up =
      let whole = prefix_equal (length parts) (omega arith) in
      let up : meet S (up_to mask (length parts)) ≡ S = all_up P mask (length parts) S masks within in
      let all : gain_sum P (meet every (up_to mask (length parts))) ≡ sum_of_gains P =
      sum_below-same (length P.links) _ _ (λ j l.
      let got = masks.covered j l in
      cond-true (true && up_to mask (length parts) j) (gain_of P j) 0 (some_below-from (length parts) (λ i. mask i j) got.0 got.1 got.2)) in
      let gains : gain_sum P (meet S (up_to mask (length parts))) ≡ gain_sum P S = ap (gain_sum P) up in
      let prices : price P (meet S (up_to mask (length parts))) ≡ price P S = ap (price P) up in
      let sums : gain_sum P S + sum_below (length parts) value ≡ sum_of_gains P + price P S = omega (arith, whole, all, gains, prices) in
      loose _ _ _ _ sums
