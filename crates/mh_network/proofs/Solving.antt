-- Blocks of links between scales, solved one by one, give the scale up to which each link is chosen.
use Rattle.std.proofs.Common.{◌≡◌, ℕ, ◌+◌, ◌*◌, ◌≤◌, ◌<◌, Bool, true, false, cond, refl, arith, sym, ◌∙◌, ap, inl, inr, length, subst}
use Rattle.std.specs.Prelude.{◌&&◌, ◌||◌, nat_lt}
use Rattle.std.proofs.Math.Path.{fun_ext}
use Rattle.std.proofs.Math.Nat.{mul-le-mul_left, mul-le-mul_right}
use Rattle.std.proofs.lemmas.List.{get_or_past, length-map}
use Rattle.std.proofs.lemmas.Bool.{cases_lt, true≢false, lt-ltb, le-ltb, ltb-true, false_from_ne_true}
use Rattle.mh_network.specs.Sums.{kept, sum_below}
use Rattle.mh_network.specs.Problems.{ProblemData, cost_of, no_link}
use Rattle.mh_network.specs.Selection.{IsBest, IsLeast}
use Rattle.mh_network.specs.Blocks.{BlocksSolve, IsEnd, IsSolved, gaining_links}
use Rattle.mh_network.specs.Factors.{AreSure, IsWithinFactor}
use Rattle.mh_network.specs.Scales.{IsCheaper, IsMostForCost, net_gain, net_of, net_sum, paid, scaled, weighed, weighed_row}
use Rattle.mh_network.specs.Laws.Halves.{meet, join, IsWithin}
use Rattle.mh_network.specs.Laws.Nets.{NetNoBetter, best_net, every, gaining_net, least_from, least_net}
use Rattle.mh_network.specs.Laws.Nested.{net_nested}
use Rattle.mh_network.specs.Laws.SumLaws.{sum_below-le}
use Rattle.mh_network.specs.Laws.Weighing.{alike_best, alike_least, weighed_cheaper, weighed_cost, weighed_needs, weighed_net, weighed_nets, weighed_paid}
use Rattle.mh_network.proofs.Contracting.{high_chosen, high_end, low_end}
use Rattle.mh_network.proofs.Cuts.{sum_below-tight}

within_all : (P : ProblemData) (T : ℕ → Bool) (j : ℕ) → kept T (net_of P) j ≤ net_of P j
within_all P T j = elim (T j) as (λ b. cond b (net_of P j) 0 ≤ net_of P j) [ true ↦ omega arith | false ↦ omega arith ]

pub gaining_inside : (P : ProblemData) (j : ℕ) → 0 < net_of P j → j < length P.links
gaining_inside P j l =
    elim (cases_lt j (length P.links)) [
      | inl m ↦ m
      | inr past ↦ absurd (omega (arith, l, ap net_gain (get_or_past P.links j no_link past)))
    ]

some_kept : (b : Bool) (n : ℕ) → cond b n 0 ≡ n → 0 < n → b ≡ true
some_kept true n e l = refl
some_kept false n e l = absurd (omega (arith, e, l))

free_least : (P : ProblemData) → IsLeast (scaled P 0) (gaining_links P)
free_least P =
    let n : ℕ = length P.links in
    let all : net_sum P (gaining_links P) ≡ sum_below n (net_of P) = gaining_net P every in
    least_from (scaled P 0) (gaining_links P) record {
      best = record {
        inside = λ j e. refl;
        greatest = λ T f.
            let most : net_sum P T ≤ sum_below n (net_of P) = sum_below-le n _ _ (λ j l. within_all P T j) in
            omega (arith, most, all, weighed_nets P 1000 0 T, weighed_nets P 1000 0 (gaining_links P), weighed_paid P 1000 0 T, weighed_paid P 1000 0 (gaining_links P));
      };
      least = λ T best j e.
          let back : sum_below n (net_of P) ≤ net_sum P T =
          omega (arith, best.greatest (gaining_links P) (λ i f. refl), all, weighed_nets P 1000 0 T, weighed_nets P 1000 0 (gaining_links P), weighed_paid P 1000 0 T, weighed_paid P 1000 0 (gaining_links P)) in
          let more : 0 < net_of P j = ltb-true 0 (net_of P j) e in
          some_kept (T j) (net_of P j) (sum_below-tight n (kept T (net_of P)) (net_of P) (λ i l. within_all P T i) back j (gaining_inside P j more)) more;
    }

filled : (h l n : Bool) → (h ≡ true → l ≡ true) → (l ≡ true → h ≡ false → n ≡ true) → (h || (l && n)) ≡ l
filled true l n f g = sym (f refl)
filled false true n f g = g refl refl
filled false false n f g = refl

one_solved : (P : ProblemData) (first : ℕ) (low high : ℕ → Bool) (until : ℕ → ℕ) → IsLeast (scaled P first) low → IsWithin high low → ((j : ℕ) → low j ≡ true → high j ≡ false → first < until j) →
    IsSolved P first (first + 1) low high until
one_solved P first low high until least within above k l m =
    let here : first ≡ k = omega arith in
    let same : low ≡ (λ j. high j || (low j && nat_lt k (until j))) =
    fun_ext (λ j. sym (filled (high j) (low j) (nat_lt k (until j)) (within j) (λ e f. lt-ltb k (until j) (omega (arith, here, above j e f))))) in
    subst (λ (i : ℕ). IsLeast (scaled P i) (λ j. high j || (low j && nat_lt k (until j)))) here (subst (λ (S : ℕ → Bool). IsLeast (scaled P first) S) same least)

alike : (h n : Bool) → h ≡ (h || (h && n))
alike true n = refl
alike false n = refl

both_again : (h t : Bool) → (h || (t && h)) ≡ h
both_again true t = refl
both_again false true = refl
both_again false false = refl

same_solved : (P : ProblemData) (first last : ℕ) (low high : ℕ → Bool) (until : ℕ → ℕ) → IsLeast (scaled P first) low → IsEnd P last high → ((j : ℕ) → low j ≡ high j) → IsSolved P first last low high until
same_solved P first last low high until least end equal k l m =
    let Q : ProblemData = scaled P k in
    let before : k ≤ last = omega arith in
    let high_least : IsLeast Q high = least_from Q high record {
      best = record {
        inside = λ j e. refl;
        greatest = λ T f.
            let down : NetNoBetter Q T (meet T low) = low_end P first k low l least T in
            let up : NetNoBetter Q (meet T low) (join high (meet T low)) = high_end P k last high before end (meet T low) in
            let again : join high (meet T low) ≡ high = fun_ext (λ j. rw (equal j) (both_again (high j) (T j))) in
            let more : NetNoBetter Q (meet T low) high = subst (λ (U : ℕ → Bool). NetNoBetter Q (meet T low) U) again up in
            omega (arith, down, more);
      };
      least = high_chosen P k last high before end;
    } in
    let same : high ≡ (λ j. high j || (low j && nat_lt k (until j))) = fun_ext (λ j. rw (equal j) (alike (high j) (nat_lt k (until j)))) in
    subst (λ (S : ℕ → Bool). IsLeast Q S) same high_least

-- before the middle, what the upper block has is chosen
below_same : (h m l n : Bool) → (h ≡ true → m ≡ true) → (m ≡ true → l ≡ true) → (m ≡ true → h ≡ false → n ≡ true) → (m || (l && n)) ≡ (h || (l && n))
below_same true m l n f g e = rw (f refl) refl
below_same false true l n f g e = rw (g refl, e refl refl) refl
below_same false false l n f g e = refl

-- and from it on, what the lower block has is not
above_same : (h m l n : Bool) → (m ≡ true → l ≡ true) → (l ≡ true → m ≡ false → n ≡ false) → (h || (m && n)) ≡ (h || (l && n))
above_same true m l n g e = refl
above_same false true l n g e = rw (g refl) refl
above_same false false true n g e = sym (e refl refl)
above_same false false false n g e = refl

two_solved : (P : ProblemData) (first k last : ℕ) (low mid high : ℕ → Bool) (until : ℕ → ℕ) → IsWithin high mid → IsWithin mid low → ((j : ℕ) → low j ≡ true → mid j ≡ false → until j ≤ k) →
    ((j : ℕ) → mid j ≡ true → high j ≡ false → k < until j) → IsSolved P first k low mid until → IsSolved P k last mid high until → IsSolved P first last low high until
two_solved P first k last low mid high until upper lower early late before after i l m =
    elim (cases_lt i k) [
      | inl less ↦
          let same : (λ (j : ℕ). mid j || (low j && nat_lt i (until j))) ≡ (λ (j : ℕ). high j || (low j && nat_lt i (until j))) =
          fun_ext (λ j. below_same (high j) (mid j) (low j) (nat_lt i (until j)) (upper j) (lower j) (λ e f. lt-ltb i (until j) (omega (arith, less, late j e f)))) in
          subst (λ (S : ℕ → Bool). IsLeast (scaled P i) S) same (before i l less)
      | inr more ↦
          let same : (λ (j : ℕ). high j || (mid j && nat_lt i (until j))) ≡ (λ (j : ℕ). high j || (low j && nat_lt i (until j))) =
          fun_ext (λ j. above_same (high j) (mid j) (low j) (nat_lt i (until j)) (lower j) (λ e f. le-ltb i (until j) (omega (arith, more, early j e f)))) in
          subst (λ (S : ℕ → Bool). IsLeast (scaled P i) S) same (after i more m)
    ]

kept_same : (h l : Bool) (k u v : ℕ) → (l ≡ true → h ≡ false → u ≡ v) → (h || (l && nat_lt k u)) ≡ (h || (l && nat_lt k v))
kept_same true l k u v e = refl
kept_same false true k u v e = ap (nat_lt k) (e refl refl)
kept_same false false k u v e = refl

whole_same : (g : Bool) (k u : ℕ) → (g ≡ false → u ≡ 0) → (g && nat_lt k u) ≡ nat_lt k u
whole_same true k u h = refl
whole_same false k u h = sym (le-ltb k u (omega (arith, h refl)))

pub blocks_solve : (P : ProblemData) → BlocksSolve P
blocks_solve P = record {
  free = free_least P;
  one = one_solved P;
  same = same_solved P;
  two = two_solved P;
  kept = λ first last low high until other alike solved k l m.
      let same : (λ (j : ℕ). high j || (low j && nat_lt k (until j))) ≡ (λ (j : ℕ). high j || (low j && nat_lt k (other j))) =
      fun_ext (λ j. kept_same (high j) (low j) k (until j) (other j) (alike j)) in
      subst (λ (S : ℕ → Bool). IsLeast (scaled P k) S) same (solved k l m);
  whole = λ most until none solved k l.
      let same : (λ (j : ℕ). false || (gaining_links P j && nat_lt k (until j))) ≡ (λ (j : ℕ). nat_lt k (until j)) =
      fun_ext (λ j. whole_same (gaining_links P j) k (until j) (none j)) in
      subst (λ (S : ℕ → Bool). IsLeast (scaled P k) S) same (solved k (omega arith) (omega arith));
}

-- factors of gains and of costs make one
dearer_cost : (g f k p q : ℕ) → g * f ≤ 1000 * k → 1000 * q ≤ f * p → g * q ≤ k * p
dearer_cost g f k p q h e =
    let one : g * (1000 * q) ≤ g * (f * p) = mul-le-mul_left g e in
    let two : (g * f) * p ≤ (1000 * k) * p = mul-le-mul_right p h in
    omega (arith, one, two)

cheaper_cost : (g f k p q : ℕ) → (g * f) * k ≤ 1000000000 → 1000 * p ≤ f * q → g * (k * p) ≤ 1000000 * q
cheaper_cost g f k p q h e =
    let one : (g * k) * (1000 * p) ≤ (g * k) * (f * q) = mul-le-mul_left (g * k) e in
    let two : ((g * f) * k) * q ≤ 1000000000 * q = mul-le-mul_right q h in
    omega (arith, one, two)

pub sure : (g f : ℕ) (P Q : ProblemData) → IsWithinFactor g f P Q → AreSure g f P Q
sure g f P Q within = record {
  chosen = λ k h S T least best.
      let cheaper : IsCheaper (weighed Q g g) (scaled P k) =
      weighed_cheaper Q P g g 1000 k (sym within.links) (sym within.points) (λ j p. sym (within.needs j p)) (λ j. (within.gains j).0) (λ p. dearer_cost g f k (cost_of P p) (cost_of Q p) h (within.costs p).1) in
      net_nested (weighed Q g g) (scaled P k) cheaper T S (alike_best Q g T (best_net Q T best)) (least_net (scaled P k) S least);
  left = λ k h S T best least j out.
      let R : ProblemData = scaled P k in
      let few : (i : ℕ) → 1000000 * net_of Q i ≤ g * net_of R i = λ i. rw (weighed_net P 1000 k i) (omega (arith, mul-le-mul_left 1000 (within.gains i).1)) in
      let low : (p : ℕ) → g * cost_of R p ≤ 1000000 * cost_of Q p = λ p. rw (weighed_cost P 1000 k p) (cheaper_cost g f k (cost_of P p) (cost_of Q p) h (within.costs p).0) in
      let cheaper : IsCheaper (weighed R g g) (weighed Q 1000000 1000000) =
      weighed_cheaper R Q g g 1000000 1000000 (length-map P.links (weighed_row 1000) ∙ within.links) (length-map P.costs (λ c. k * c) ∙ within.points) (λ i p. weighed_needs P 1000 k i p ∙ within.needs i p) few low in
      let inside : IsWithin T S = net_nested (weighed R g g) (weighed Q 1000000 1000000) cheaper S T (alike_best R g S (best_net R S best)) (least_net (weighed Q 1000000 1000000) T (alike_least Q 1000000 T (omega arith) least)) in
      false_from_ne_true (T j) (λ e. true≢false (sym (inside j e) ∙ out));
}

-- no links whose points cost no more gain more
pub most_for_cost : (P : ProblemData) (k : ℕ) (S : ℕ → Bool) → IsBest (scaled P k) S → IsMostForCost P S
most_for_cost P k S best T less =
    let more : NetNoBetter (scaled P k) T S = (best_net (scaled P k) S best).greatest T (λ j e. refl) in
    let costs : k * paid P T ≤ k * paid P S = mul-le-mul_left k less in
    omega (arith, more, costs, weighed_nets P 1000 k T, weighed_nets P 1000 k S, weighed_paid P 1000 k T, weighed_paid P 1000 k S)
