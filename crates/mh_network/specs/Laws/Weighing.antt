-- Problems whose net gains and costs are weighed differently.
use Rattle.std.proofs.Common.{◌≡◌, ℕ, zero, suc, ◌+◌, ◌-◌, ◌*◌, ◌≤◌, ◌<◌, Bool, true, false, cond, refl, arith, sym, ◌∙◌, ap, inl, inr, length}
use Rattle.std.specs.Prelude.{◌==◌, ◌&&◌}
use Rattle.std.specs.List.{list_any}
use Rattle.std.proofs.Math.Path.{fun_ext}
use Rattle.std.proofs.lemmas.List.{get_or_past, get_or-map, length-map}
use Rattle.std.proofs.Math.Nat.{le_of_mul-le-mul_left, mul-le-mul_left}
use Rattle.std.proofs.lemmas.Nat.{mul-le}
use Rattle.std.proofs.lemmas.Bool.{cases_lt}
use Rattle.mh_network.specs.declared.link_row.LinkRow.{LinkRow}
use Rattle.mh_network.specs.Sums.{sum_below, some_below, kept}
use Rattle.mh_network.specs.Problems.{ProblemData, link_at, cost_of, needs_point, no_link}
use Rattle.mh_network.specs.Selection.{union_of_needs, IsLeast}
use Rattle.mh_network.specs.Scales.{IsCheaper, net_gain, net_of, net_sum, paid, scaled, weighed, weighed_row}
use Rattle.mh_network.specs.Laws.Nets.{IsNetBest, NetNoBetter, every, least_from, least_net}
use Rattle.mh_network.specs.Laws.SumLaws.{sum_below-same}

pub weighed_at : (P : ProblemData) (a b : ℕ) (j : ℕ) → link_at (weighed P a b) j ≡ weighed_row a (link_at P j)
weighed_at P a b j =
    elim (cases_lt j (length P.links)) [
      | inl l ↦ get_or-map (weighed_row a) P.links j no_link no_link l
      | inr past ↦
          let gone : link_at P j ≡ no_link = get_or_past P.links j no_link past in
          let nothing : a * 0 ≡ 0 = omega arith in
          let row : weighed_row a no_link ≡ no_link = ap (λ (g : ℕ). record { gain = g; eligible = false; needs = no_link.needs; charge = 0 }) nothing in
          get_or_past (weighed P a b).links j no_link (omega (arith, past, length-map P.links (weighed_row a))) ∙ sym (ap (weighed_row a) gone ∙ row)
    ]

pub weighed_needs : (P : ProblemData) (a b : ℕ) (j p : ℕ) → needs_point (weighed P a b) j p ≡ needs_point P j p
weighed_needs P a b j p = ap (λ (r : LinkRow). list_any (λ q. q == p) r.needs) (weighed_at P a b j)

pub weighed_union : (P : ProblemData) (a b : ℕ) (S : ℕ → Bool) (p : ℕ) → union_of_needs (weighed P a b) S p ≡ union_of_needs P S p
weighed_union P a b S p =
    ap (λ (n : ℕ). some_below n (λ j. S j && needs_point (weighed P a b) j p)) (length-map P.links (weighed_row a))
    ∙ ap (some_below (length P.links)) (fun_ext (λ j. ap (λ c. S j && c) (weighed_needs P a b j p)))

row_net : (e : Bool) (a g c : ℕ) → cond e (a * (cond e g 0 - c)) 0 - 0 ≡ a * (cond e g 0 - c)
row_net true a g c = omega arith
row_net false a g c =
    let none : 0 - c ≡ 0 = omega arith in
    rw none (omega arith)

pub weighed_net : (P : ProblemData) (a b : ℕ) (j : ℕ) → net_of (weighed P a b) j ≡ a * net_of P j
weighed_net P a b j = ap net_gain (weighed_at P a b j) ∙ row_net (link_at P j).eligible a (link_at P j).gain (link_at P j).charge

pub weighed_cost : (P : ProblemData) (a b : ℕ) (p : ℕ) → cost_of (weighed P a b) p ≡ b * cost_of P p
weighed_cost P a b p =
    elim (cases_lt p (length P.costs)) [
      | inl l ↦ get_or-map (λ c. b * c) P.costs p 0 0 l
      | inr past ↦
          let gone : cost_of P p ≡ 0 = get_or_past P.costs p 0 past in
          let none : cost_of (weighed P a b) p ≡ 0 = get_or_past (weighed P a b).costs p 0 (omega (arith, past, length-map P.costs (λ c. b * c))) in
          let nothing : b * cost_of P p ≡ 0 = rw gone (omega arith) in
          none ∙ sym nothing
    ]

-- weighed problems of the same links and points: cheaper if each gain and cost says so
pub weighed_cheaper : (P Q : ProblemData) (a b c d : ℕ) → length P.links ≡ length Q.links → length P.costs ≡ length Q.costs → ((j p : ℕ) → needs_point P j p ≡ needs_point Q j p) →
    ((j : ℕ) → c * net_of Q j ≤ a * net_of P j) → ((p : ℕ) → b * cost_of P p ≤ d * cost_of Q p) → IsCheaper (weighed P a b) (weighed Q c d)
weighed_cheaper P Q a b c d links points needs gains costs = record {
  links = length-map P.links (weighed_row a) ∙ (links ∙ sym (length-map Q.links (weighed_row c)));
  points = length-map P.costs (λ x. b * x) ∙ (points ∙ sym (length-map Q.costs (λ x. d * x)));
  needs = λ j p. weighed_needs P a b j p ∙ (needs j p ∙ sym (weighed_needs Q c d j p));
  gains = λ j. omega (arith, weighed_net P a b j, weighed_net Q c d j, gains j);
  costs = λ p. omega (arith, weighed_cost P a b p, weighed_cost Q c d p, costs p);
}

pub scales_rise : (P : ProblemData) (k m : ℕ) → k ≤ m → IsCheaper (scaled P k) (scaled P m)
scales_rise P k m l = weighed_cheaper P P 1000 k 1000 m refl refl (λ j p. refl) (λ j. omega arith) (λ p. mul-le k (cost_of P p) m (cost_of P p) l (omega arith))

-- a sum of multiples
pub times_sum : (n a : ℕ) (S : ℕ → Bool) (f : ℕ → ℕ) → sum_below n (kept S (λ k. a * f k)) ≡ a * sum_below n (kept S f)
times_sum zero a S f = omega arith
times_sum (suc n) a S f =
    let here : kept S (λ k. a * f k) n ≡ a * kept S f n = elim (S n) as (λ b. cond b (a * f n) 0 ≡ a * cond b (f n) 0) [ true ↦ refl | false ↦ omega arith ] in
    omega (arith, here, times_sum n a S f)

pub weighed_nets : (P : ProblemData) (a b : ℕ) (S : ℕ → Bool) → net_sum (weighed P a b) S ≡ a * net_sum P S
weighed_nets P a b S =
    ap (λ (n : ℕ). sum_below n (kept S (net_of (weighed P a b)))) (length-map P.links (weighed_row a))
    ∙ (sum_below-same (length P.links) _ _ (λ j l. ap (λ (v : ℕ). cond (S j) v 0) (weighed_net P a b j)) ∙ times_sum (length P.links) a S (net_of P))

pub weighed_paid : (P : ProblemData) (a b : ℕ) (S : ℕ → Bool) → paid (weighed P a b) S ≡ b * paid P S
weighed_paid P a b S =
    let U : ℕ → Bool = union_of_needs P S in
    let same : union_of_needs (weighed P a b) S ≡ U = fun_ext (weighed_union P a b S) in
    ap (λ (n : ℕ). sum_below n (kept (union_of_needs (weighed P a b) S) (cost_of (weighed P a b)))) (length-map P.costs (λ c. b * c))
    ∙ (ap (λ (V : ℕ → Bool). sum_below (length P.costs) (kept V (cost_of (weighed P a b)))) same
    ∙ (sum_below-same (length P.costs) _ _ (λ p l. ap (λ (v : ℕ). cond (U p) v 0) (weighed_cost P a b p)) ∙ times_sum (length P.costs) b U (cost_of P)))

-- weighed alike, links are best and least as before
pub alike_better : (P : ProblemData) (a : ℕ) (T S : ℕ → Bool) → NetNoBetter P T S → NetNoBetter (weighed P a a) T S
alike_better P a T S h =
    let more : a * (net_sum P T + paid P S) ≤ a * (net_sum P S + paid P T) = mul-le-mul_left a h in
    omega (arith, more, weighed_nets P a a T, weighed_nets P a a S, weighed_paid P a a T, weighed_paid P a a S)

pub alike_back : (P : ProblemData) (a : ℕ) (T S : ℕ → Bool) → 0 < a → NetNoBetter (weighed P a a) T S → NetNoBetter P T S
alike_back P a T S l h =
    let more : a * (net_sum P T + paid P S) ≤ a * (net_sum P S + paid P T) = omega (arith, h, weighed_nets P a a T, weighed_nets P a a S, weighed_paid P a a T, weighed_paid P a a S) in
    le_of_mul-le-mul_left more l

pub alike_best : (P : ProblemData) (a : ℕ) (S : ℕ → Bool) → IsNetBest P every S → IsNetBest (weighed P a a) every S
alike_best P a S best = record { inside = λ j e. refl; greatest = λ T f. alike_better P a T S (best.greatest T f) }

alike_best_back : (P : ProblemData) (a : ℕ) (S : ℕ → Bool) → 0 < a → IsNetBest (weighed P a a) every S → IsNetBest P every S
alike_best_back P a S l best = record { inside = λ j e. refl; greatest = λ T f. alike_back P a T S l (best.greatest T f) }

pub alike_least : (P : ProblemData) (a : ℕ) (S : ℕ → Bool) → 0 < a → IsLeast P S → IsLeast (weighed P a a) S
alike_least P a S l least =
    let net = least_net P S least in
    least_from (weighed P a a) S record {
      best = alike_best P a S net.best;
      least = λ T best. net.least T (alike_best_back P a T l best);
    }

pub alike_least_back : (P : ProblemData) (a : ℕ) (S : ℕ → Bool) → 0 < a → IsLeast (weighed P a a) S → IsLeast P S
alike_least_back P a S l least =
    let net = least_net (weighed P a a) S least in
    least_from P S record {
      best = alike_best_back P a S l net.best;
      least = λ T best. net.least T (alike_best P a T best);
    }
