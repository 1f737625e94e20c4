-- A part of a problem is a problem.
use Rattle.std.proofs.Common.{◌≡◌, ℕ, zero, suc, ◌+◌, ◌-◌, ◌≤◌, ◌<◌, List, [], ◌∷◌, ◌++◌, Bool, true, false, cond, refl, arith, sym, ◌∙◌, ap, inl, inr, length, subst, map, take}
use Rattle.std.specs.Prelude.{◌==◌, ◌&&◌}
use Rattle.std.specs.List.{list_any, sum_by}
use Rattle.std.specs.List.Sorted.{IsStrictlyIncreasing}
use Rattle.std.proofs.lemmas.List.{get_or_past, get_or-map, length-map, take_more, map-append}
use Rattle.std.proofs.lemmas.List.Kept.{AllPairs-from_increasing}
use Rattle.std.proofs.lemmas.Bool.{cases_lt, true≢false, eqb-true, lt-ltb}
use Rattle.mh_network.specs.declared.link_row.LinkRow.{LinkRow}
use Rattle.mh_network.specs.declared.part.Part.{Part}
use Rattle.mh_network.specs.Sums.{sum_below, kept}
use Rattle.mh_network.specs.Problems.{ProblemData, IsProblem, link_at, gain_of, charge_of, cost_of, no_link, sum_of_gains, sum_of_costs, sum_of_charges}
use Rattle.mh_network.specs.Selection.{member, gain_sum, charge_sum}
use Rattle.mh_network.specs.Parts.{IsPartOf, place_of, part_row, part_problem, restricted}
use Rattle.mh_network.specs.Laws.Kept.{sum_below-list}
use Rattle.mh_network.specs.Laws.Members.{found, listed_sum, all_members}
use Rattle.mh_network.specs.Laws.SumLaws.{sum_below-same, sum_below-le}
use Rattle.mh_network.specs.Laws.Halves.{meet}
use Rattle.mh_network.proofs.Renumbering.{num, place_in, member_at, any_map, row_here, gains_here, charges_here}

-- one more number of a list, as a function gives it
pub mapped_more : (f : ℕ → ℕ) (old new xs : List ℕ) (i x : ℕ) → i < length xs → old ≡ map f (take i xs) → new ≡ old ++ x ∷ [] → x ≡ f (num xs i) → new ≡ map f (take (i + 1) xs)
mapped_more f old new xs i x l before more value =
    let whole : map f (take (i + 1) xs) ≡ map f (take i xs) ++ f (num xs i) ∷ [] = ap (map f) (take_more xs i 0 l) ∙ map-append f (take i xs) (num xs i ∷ []) in
    more ∙ (ap (λ (ys : List ℕ). ys ++ x ∷ []) before ∙ (ap (λ (v : ℕ). map f (take i xs) ++ v ∷ []) value ∙ sym whole))

above_place : (xs : List ℕ) → IsStrictlyIncreasing xs → (k : ℕ) → k < length xs → k ≤ num xs k
above_place xs h zero l = omega arith
above_place xs h (suc k) l =
    let next : k + 1 ≡ suc k = omega arith in
    omega (arith, above_place xs h k (omega arith), h k (omega arith), ap (num xs) next)

-- ascending numbers below n are at most n
pub ascending_few : (xs : List ℕ) (n : ℕ) → IsStrictlyIncreasing xs → ((j : ℕ) → member xs j ≡ true → j < n) → length xs ≤ n
ascending_few xs n h within =
    elim (cases_lt 0 (length xs)) [
      | inl some ↦
          let last : length xs - 1 < length xs = omega arith in
          omega (arith, above_place xs h (length xs - 1) last, within (num xs (length xs - 1)) (member_at xs (length xs - 1) last))
      | inr none ↦ omega arith
    ]

-- places rise with the numbers
pub place_rises : (xs : List ℕ) (a b : ℕ) → IsStrictlyIncreasing xs → member xs a ≡ true → member xs b ≡ true → a < b → place_of xs a < place_of xs b
place_rises xs a b rising f g l =
    let first = place_in xs a f in
    let second = place_in xs b g in
    elim (cases_lt (place_of xs a) (place_of xs b)) [
      | inl m ↦ m
      | inr m ↦ elim (cases_lt (place_of xs b) (place_of xs a)) [
        | inl back ↦ absurd (omega (arith, AllPairs-from_increasing xs rising (place_of xs b) (place_of xs a) 0 back first.0, first.1, second.1, l))
        | inr level ↦
            let same : place_of xs a ≡ place_of xs b = omega (arith, m, level) in
            let equal : a ≡ b = sym first.1 ∙ (ap (num xs) same ∙ second.1) in
            absurd (omega (arith, equal, l))
      ]
    ]

abbrev pub every : ℕ → Bool
every _ = true

module _ (P : ProblemData) (part : Part) (h : IsPartOf P part) (problem : IsProblem P) where
  -- what holds of each link of the part, and of what stands past the last
  each_row : (R : LinkRow → Type 0) → R no_link → ((j : ℕ) → member part.links j ≡ true → R (part_row P part j)) → (k : ℕ) → R (link_at (part_problem P part) k)
  each_row R none each k =
      elim (cases_lt k (length part.links)) [
        | inl l ↦ subst R (sym (row_here P part h k l)) (each (num part.links k) (member_at part.links k l))
        | inr past ↦ subst R (sym (get_or_past (part_problem P part).links k no_link (omega (arith, past, length-map part.links (part_row P part))))) none
      ]

  needs_placed : (j p : ℕ) → member part.links j ≡ true → list_any (λ q. q == p) (map (place_of part.points) (link_at P j).needs) ≡ true → p < length part.points
  needs_placed j p inside e =
      let got = found (λ q. place_of part.points q == p) (link_at P j).needs (sym (any_map (λ q. q == p) (place_of part.points) (link_at P j).needs) ∙ e) in
      let there = place_in part.points got.0 (h.needs_in j got.0 inside got.1) in
      omega (arith, there.0, eqb-true (place_of part.points got.0) p got.2)

  needs_rise : (j : ℕ) → member part.links j ≡ true → IsStrictlyIncreasing (map (place_of part.points) (link_at P j).needs)
  needs_rise j inside i l =
      let ns : List ℕ = (link_at P j).needs in
      let short : i + 1 < length ns = omega (arith, l, length-map ns (place_of part.points)) in
      let first : num (map (place_of part.points) ns) i ≡ place_of part.points (num ns i) = get_or-map (place_of part.points) ns i 0 0 (omega arith) in
      let second : num (map (place_of part.points) ns) (i + 1) ≡ place_of part.points (num ns (i + 1)) = get_or-map (place_of part.points) ns (i + 1) 0 0 short in
      let here : member part.points (num ns i) ≡ true = h.needs_in j (num ns i) inside (member_at ns i (omega arith)) in
      let after : member part.points (num ns (i + 1)) ≡ true = h.needs_in j (num ns (i + 1)) inside (member_at ns (i + 1) short) in
      omega (arith, first, second, place_rises part.points (num ns i) (num ns (i + 1)) h.points here after (problem.ascending j i short))

  -- what all links of a part add up to is what they add up to in the whole
  all_of_part : (f : LinkRow → ℕ) →
      sum_below (length (part_problem P part).links) (λ k. f (link_at (part_problem P part) k)) ≡ sum_below (length (part_problem P part).links) (kept (restricted every part) (λ k. f (link_at (part_problem P part) k)))
  all_of_part f =
      let count : length (part_problem P part).links ≡ length part.links = length-map part.links (part_row P part) in
      sum_below-same (length (part_problem P part).links) _ _ (λ k l.
      let below : k < length part.links = omega (arith, l, count) in
      sym (ap (λ (b : Bool). cond (b && true) (f (link_at (part_problem P part) k)) 0) (lt-ltb k (length part.links) below)))

  half_within : (f : ℕ → ℕ) → sum_below (length P.links) (kept (meet every (member part.links)) f) ≤ sum_below (length P.links) f
  half_within f = sum_below-le (length P.links) _ _ (λ k l.
      elim (member part.links k) as (λ b. cond (true && b) (f k) 0 ≤ f k) [ true ↦ omega arith | false ↦ omega arith ])

  -- the gains of a part are those of its links
  pub part_gains : sum_of_gains (part_problem P part) ≡ gain_sum P (meet every (member part.links))
  part_gains = all_of_part (λ (r : LinkRow). r.gain) ∙ gains_here P part h every

  gains_within : sum_of_gains (part_problem P part) ≤ sum_of_gains P
  gains_within = omega (arith, part_gains, half_within (gain_of P))

  charges_within : sum_of_charges (part_problem P part) ≤ sum_of_charges P
  charges_within =
      let same : sum_of_charges (part_problem P part) ≡ charge_sum P (meet every (member part.links)) = all_of_part (λ (r : LinkRow). r.charge) ∙ charges_here P part h every in
      omega (arith, same, half_within (charge_of P))

  costs_within : sum_of_costs (part_problem P part) ≤ sum_of_costs P
  costs_within =
      let count : length (part_problem P part).costs ≡ length part.points = length-map part.points (cost_of P) in
      let first : sum_of_costs (part_problem P part) ≡ sum_below (length part.points) (cost_of (part_problem P part)) = ap (λ (n : ℕ). sum_below n (cost_of (part_problem P part))) count in
      let second : sum_below (length part.points) (cost_of (part_problem P part)) ≡ sum_below (length part.points) (λ r. cost_of P (num part.points r)) =
      sum_below-same (length part.points) _ _ (λ r l. get_or-map (cost_of P) part.points r 0 0 l) in
      let third : sum_below (length part.points) (λ r. cost_of P (num part.points r)) ≡ sum_by (cost_of P) part.points = sum_below-list (cost_of P) 0 part.points in
      let fourth : sum_by (cost_of P) part.points ≡ sum_below (length P.costs) (kept (member part.points) (cost_of P)) =
      listed_sum (cost_of P) (length P.costs) part.points h.points (all_members (λ p. p < length P.costs) part.points h.points_in) in
      let kept_le : sum_below (length P.costs) (kept (member part.points) (cost_of P)) ≤ sum_of_costs P = sum_below-le (length P.costs) _ _ (λ k l.
      elim (member part.points k) as (λ b. cond b (cost_of P k) 0 ≤ cost_of P k) [ true ↦ omega arith | false ↦ omega arith ]) in
      omega (arith, first, second, third, fourth, kept_le)

  pub part_is_problem : IsProblem (part_problem P part)
  part_is_problem = record {
    links = omega (arith, length-map part.links (part_row P part), ascending_few part.links (length P.links) h.links h.links_in, problem.links);
    points = omega (arith, length-map part.points (cost_of P), ascending_few part.points (length P.costs) h.points h.points_in, problem.points);
    in_range = each_row (λ r. (p : ℕ) → list_any (λ q. q == p) r.needs ≡ true → p < length (part_problem P part).costs) (λ p e. absurd (true≢false (sym e)))
        (λ j inside p e. omega (arith, length-map part.points (cost_of P), needs_placed j p inside e));
    ascending = each_row (λ r. IsStrictlyIncreasing r.needs) (λ k l. absurd (omega arith)) needs_rise;
    ineligible = each_row (λ r. r.eligible ≡ false → r.gain ≡ 0) (λ e. refl) (λ j inside e. problem.ineligible j e);
    gains = omega (arith, gains_within, problem.gains);
    costs = omega (arith, costs_within, charges_within, problem.costs);
  }
