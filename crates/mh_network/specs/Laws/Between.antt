-- Between links that every best set has and links that contain some best set, only a block is undecided.
use Rattle.std.proofs.Common.{◌≡◌, ℕ, ◌+◌, Bool, true, false, cond, refl, arith, sym, ◌∙◌, ap, inl, inr, length, subst}
use Rattle.std.specs.Prelude.{not, ◌==◌, ◌&&◌, ◌||◌}
use Rattle.std.specs.List.{list_any}
use Rattle.std.proofs.Math.Path.{fun_ext}
use Rattle.std.proofs.lemmas.List.{get_or_past, get_or-map, length-map}
use Rattle.std.proofs.lemmas.Map.Views.{any-filter_same}
use Rattle.std.proofs.lemmas.Bool.{cases_lt, true≢false, and_parts, and_from, eqb-true, not-true, not_from_false, or_cases}
use Rattle.mh_network.specs.declared.link_row.LinkRow.{LinkRow}
use Rattle.mh_network.specs.declared.part.Part.{Part}
use Rattle.mh_network.specs.Sums.{sum_below, kept}
use Rattle.mh_network.specs.Problems.{ProblemData, link_at, cost_of, needs_point, no_link}
use Rattle.mh_network.specs.Selection.{member, union_of_needs}
use Rattle.mh_network.specs.Blocks.{IsBlock, needing, needing_row}
use Rattle.mh_network.specs.Scales.{net_gain, net_of, net_sum, paid}
use Rattle.mh_network.specs.Laws.Halves.{meet, less, join, IsWithin, join_sums, join_costs}
use Rattle.mh_network.specs.Laws.Members.{same_answer}
use Rattle.mh_network.specs.Laws.Nets.{IsNetBest, IsNetLeast, NetNoBetter, every}
use Rattle.mh_network.specs.Laws.Optimal.{needs-in_range, some_below-from, some_below-gives}
use Rattle.mh_network.specs.Laws.SumLaws.{sum_below-same}

-- a link of the problem with fewer needs
pub needing_at : (P : ProblemData) (V : ℕ → Bool) (j : ℕ) → link_at (needing P V) j ≡ needing_row V (link_at P j)
needing_at P V j =
    elim (cases_lt j (length P.links)) [
      | inl l ↦ get_or-map (needing_row V) P.links j no_link no_link l
      | inr past ↦
          let gone : link_at P j ≡ no_link = get_or_past P.links j no_link past in
          get_or_past (needing P V).links j no_link (omega (arith, past, length-map P.links (needing_row V))) ∙ sym (ap (needing_row V) gone)
    ]

pub needing_needs : (P : ProblemData) (V : ℕ → Bool) (j p : ℕ) → needs_point (needing P V) j p ≡ (V p && needs_point P j p)
needing_needs P V j p =
    ap (λ (r : LinkRow). list_any (λ q. q == p) r.needs) (needing_at P V j)
    ∙ any-filter_same (λ q. q == p) V (V p) (λ k e. ap V (eqb-true k p e)) (link_at P j).needs

pub needing_net : (P : ProblemData) (V : ℕ → Bool) (S : ℕ → Bool) → net_sum (needing P V) S ≡ net_sum P S
needing_net P V S =
    ap (λ (n : ℕ). sum_below n (kept S (net_of (needing P V)))) (length-map P.links (needing_row V))
    ∙ sum_below-same (length P.links) _ _ (λ j l. ap (λ (r : LinkRow). cond (S j) (net_gain r) 0) (needing_at P V j))

both_same : (h m : Bool) → (h || m) ≡ ((m && not h) || h)
both_same true true = refl
both_same true false = refl
both_same false true = refl
both_same false false = refl

disjoint : (x a l h : Bool) → a ≡ (l && not h) → (x ≡ true → a ≡ true) → (x && not h) ≡ x
disjoint true a l true e f = absurd (true≢false (sym (f refl) ∙ e ∙ elim l as (λ b. (b && false) ≡ false) [ true ↦ refl | false ↦ refl ]))
disjoint true a l false e f = refl
disjoint false a l h e f = refl

-- nothing is lost outside low, nor by adding high, which every best set has
module _ (P : ProblemData) (low high : ℕ → Bool) (part : Part) (block : IsBlock P low high part)
    (down : (T : ℕ → Bool) → NetNoBetter P T (meet T low)) (up : (T : ℕ → Bool) → NetNoBetter P T (join high T)) (chosen : (T : ℕ → Bool) → IsNetBest P every T → IsWithin high T) where
  abbrev open_links : ℕ → Bool
  open_links = member part.links

  abbrev N : ProblemData
  N = needing P (member part.points)

  needs_left : (X : ℕ → Bool) → IsWithin X open_links → (p : ℕ) → union_of_needs N X p ≡ less (union_of_needs P X) (union_of_needs P high) p
  needs_left X within p =
      same_answer (union_of_needs N X p) (less (union_of_needs P X) (union_of_needs P high) p)
      (λ e.
      let found = some_below-gives (length N.links) (λ j. X j && needs_point N j p) e in
      let both = and_parts (X found.0) (needs_point N found.0 p) found.2 in
      let needs = and_parts (member part.points p) (needs_point P found.0 p) (sym (needing_needs P (member part.points) found.0 p) ∙ both.1) in
      and_from _ _ (some_below-from (length P.links) (λ j. X j && needs_point P j p) found.0 (needs-in_range P found.0 p needs.1) (and_from _ _ both.0 needs.1))
      (not_from_false (union_of_needs P high p) (block.unpaid p needs.0)))
      (λ e.
      let halves = and_parts (union_of_needs P X p) (not (union_of_needs P high p)) e in
      let found = some_below-gives (length P.links) (λ j. X j && needs_point P j p) halves.0 in
      let both = and_parts (X found.0) (needs_point P found.0 p) found.2 in
      let inside : member part.points p ≡ true = block.needs_in found.0 p (within found.0 both.0) both.1 (not-true (union_of_needs P high p) halves.1) in
      let needs : needs_point N found.0 p ≡ true = needing_needs P (member part.points) found.0 p ∙ and_from _ _ inside both.1 in
      some_below-from (length N.links) (λ j. X j && needs_point N j p) found.0 (needs-in_range N found.0 p needs) (and_from _ _ both.0 needs))

  paid_beside : (X : ℕ → Bool) → IsWithin X open_links → paid P (join X high) ≡ paid P high + paid N X
  paid_beside X within =
      let left : paid N X ≡ sum_below (length P.costs) (kept (less (union_of_needs P X) (union_of_needs P high)) (cost_of P)) =
      sum_below-same (length P.costs) _ _ (λ p l. ap (λ b. cond b (cost_of P p) 0) (needs_left X within p)) in
      omega (arith, left, join_costs P (length P.costs) (cost_of P) X high)

  nets_beside : (X : ℕ → Bool) → IsWithin X open_links → net_sum P (join X high) ≡ net_sum P high + net_sum N X
  nets_beside X within =
      let alone : less X high ≡ X = fun_ext (λ j. disjoint (X j) (open_links j) (low j) (high j) (block.between j) (within j)) in
      let same : net_sum P (less X high) ≡ net_sum P X = ap (net_sum P) alone in
      omega (arith, same, join_sums (length P.links) (net_of P) X high, needing_net P (member part.points) X)

  -- the part of a set that is in the block
  abbrev inner : (ℕ → Bool) → ℕ → Bool
  inner X = less (meet X low) high

  inner_within : (X : ℕ → Bool) → IsWithin (inner X) open_links
  inner_within X j e =
      let both = and_parts (meet X low j) (not (high j)) e in
      block.between j ∙ and_from _ _ (and_parts (X j) (low j) both.0).1 both.1

  -- nothing is lost by taking high, and of the others only those in the block
  inner_better : (X : ℕ → Bool) → NetNoBetter P X (join (inner X) high)
  inner_better X =
      let same : join high (meet X low) ≡ join (inner X) high = fun_ext (λ j. both_same (high j) (meet X low j)) in
      let more : NetNoBetter P (meet X low) (join (inner X) high) = subst (λ (U : ℕ → Bool). NetNoBetter P (meet X low) U) same (up (meet X low)) in
      omega (arith, down X, more)

  pub block_joined : (T : ℕ → Bool) → IsNetLeast N open_links T → IsNetLeast P every (join T high)
  block_joined T least =
      let inside : IsWithin T open_links = least.best.inside in
      record {
        best = record {
          inside = λ j e. refl;
          greatest = λ X f.
              omega (
                arith,
                inner_better X,
                least.best.greatest (inner X) (inner_within X),
                paid_beside (inner X) (inner_within X),
                nets_beside (inner X) (inner_within X),
                paid_beside T inside,
                nets_beside T inside,
              );
        };
        least = λ X best j e.
            let other : IsNetBest N open_links (inner X) = record {
              inside = inner_within X;
              greatest = λ W within.
                  omega (
                    arith,
                    inner_better X,
                    best.greatest (join W high) (λ i f. refl),
                    paid_beside (inner X) (inner_within X),
                    nets_beside (inner X) (inner_within X),
                    paid_beside W within,
                    nets_beside W within,
                  );
            } in
            elim (or_cases (T j) (high j) e) [
              | inl one ↦ (and_parts (X j) (low j) (and_parts (meet X low j) (not (high j)) (least.least (inner X) other j one)).0).0
              | inr two ↦ chosen X best j two
            ];
      }
