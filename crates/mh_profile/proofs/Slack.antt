-- The links of a plan stay best within the slack of a point.
use Rattle.std.proofs.Common.{◌≡◌, ◌≢◌, ℕ, zero, suc, ◌+◌, ◌-◌, ◌<◌, ◌≤◌, Bool, true, false, not, cond, List, length, refl, sym, ap, ◌∙◌, arith, inl, inr}
use Rattle.std.specs.Prelude.{◌&&◌, ℤ, pos, ◌-ℤ◌, ◌≤ℤ◌}
use Rattle.std.specs.List.{sum_by}
use Rattle.std.proofs.lemmas.Bool.{cases_Bool, cases_eq, and_from, true≢false}
use Rattle.std.proofs.lemmas.Int.{ints}
use Rattle.std.proofs.lemmas.List.{get_or-set_same, get_or-set_other, length-set}
use Rattle.mh_network.specs.Problems.{ProblemData, IsProblem, link_at, gain_of, cost_of, charge_of, needs_point, sum_of_gains}
use Rattle.mh_network.specs.Selection.{Row, Charge, member, union_of_needs, from_link, into_charge, into_point, gain_sum, cost_sum, charge_sum, price, value_of}
use Rattle.mh_network.specs.Sums.{sum_below, kept}
use Rattle.mh_network.specs.Laws.Net.{net}
use Rattle.mh_network.specs.Laws.Duality.{value-parts}
use Rattle.mh_network.specs.Laws.Members.{listed_sum, member_is}
use Rattle.mh_network.specs.Laws.Optimal.{IsCarried, some_below-from, charges_by_link, covered, feasible, gains_parted}
use Rattle.mh_network.specs.Laws.SumLaws.{sum_below-add, sum_below-le, sum_below-same, sum_below-split, sum_below-up, sum_by-le-All}
use Rattle.mh_cert.specs.declared.plan.Plan.{Plan}
use Rattle.mh_cert.specs.Plans.{Matches}
use Rattle.mh_profile.specs.Accounts.{left_around, left_of}
use Rattle.mh_profile.proofs.Amounts.{links_inside}
use Rattle.mh_profile.specs.Slack.{IsWithinSlack, StaysBest, with_cost}

cond-le : (b c : Bool) (a : ℕ) → (b ≡ true → c ≡ true) → cond b a 0 ≤ cond c a 0
cond-le true true a h = omega arith
cond-le true false a h = absurd (true≢false (sym (h refl)))
cond-le false c a h = omega arith

kept-le : (S : ℕ → Bool) (f g : ℕ → ℕ) (k : ℕ) → f k ≤ g k → kept S f k ≤ kept S g k
kept-le S f g k h = elim (S k) as (λ b. cond b (f k) 0 ≤ cond b (g k) 0) [ true ↦ h | false ↦ omega arith ]

kept-add : (S : ℕ → Bool) (f g : ℕ → ℕ) (k : ℕ) → kept S (λ i. f i + g i) k ≡ kept S f k + kept S g k
kept-add S f g k = elim (S k) as (λ b. cond b (f k + g k) 0 ≡ cond b (f k) 0 + cond b (g k) 0) [ true ↦ refl | false ↦ refl ]

-- sums of two functions that differ at one number alone
sum_below-but : (n : ℕ) (f g : ℕ → ℕ) (i : ℕ) → i < n → ((k : ℕ) → k ≢ i → f k ≡ g k) → sum_below n f + g i ≡ sum_below n g + f i
sum_below-but zero f g i l h = absurd (omega arith)
sum_below-but (suc n) f g i l h = elim (cases_eq i n) [
  | inl last ↦
      let before = sum_below-same n f g (λ k below. h k (λ e. omega (arith, e, last))) in
      omega (arith, before, ap f last, ap g last)
  | inr earlier ↦ omega (arith, sum_below-but n f g i (omega arith) h, h n (λ e. earlier (sym e)))
]

-- what two differences that are one say of their sums
equal_sums : (a b c d : ℕ) (v : ℤ) → v ≡ pos a -ℤ pos b → v ≡ pos c -ℤ pos d → a + d ≡ c + b
equal_sums a b c d v one other = omega (arith, ints, one, other)

difference-le : (a b c d : ℕ) → a + d ≤ b + c → (pos a -ℤ pos c) ≤ℤ (pos b -ℤ pos d)
difference-le a b c d h = omega (arith, ints)

module _ (P : ProblemData) (plan : Plan) (is : IsProblem P) (h : Matches P plan) where
  abbrev rows : List Row
  rows = plan.flow

  abbrev charges : List Charge
  charges = plan.charges

  -- what links beside T have left
  abbrev left_beside : (ℕ → Bool) → ℕ
  left_beside T = sum_below (length P.links) (kept (λ k. not (T k)) (left_of P plan))

  -- what the points of U lack of their costs
  abbrev lacked_in : (ℕ → Bool) → ℕ
  lacked_in U = sum_below (length P.costs) (kept U (λ p. cost_of P p - into_point rows p))

  carried : IsCarried P (net P charges (λ (r : Row). r.0) (λ r. r.1) (λ r. r.2)) rows charges
  carried = record { needed = h.1.1.1.0.0.needed; listed = h.1.1.1.0.1.listed; gains = h.1.1.1.1.0; costs = h.1.1.1.1.1.0; charged = h.1.1.1.1.1.1.0 }

  -- a set of links is worth no more than the plan's, less what links beside it have left and what its points lack
  spent_duality : (T : ℕ → Bool) → gain_sum P T + value_of rows charges + left_beside T + lacked_in (union_of_needs P T) ≤ sum_of_gains P + price P T
  spent_duality T =
      let U = union_of_needs P T in
      let n = net P charges (λ (r : Row). r.0) (λ r. r.1) (λ r. r.2) in
      let T' : ℕ → Bool = λ k. not (T k) in
      let parts = value-parts n rows T U (feasible P (λ (r : Row). r.0) (λ r. r.1) (λ r. r.2) rows charges is carried) in
      let cover = covered P (λ (r : Row). r.0) (λ r. r.1) (λ r. r.2) rows charges T carried in
      let first : sum_by (λ (r : Row). cond (T r.0) r.2 0) rows ≤ sum_by (λ (r : Row). cond (U r.1) r.2 0) rows =
      sum_by-le-All _ _ rows (λ k d l. cond-le _ _ _ (cover.covers k d l)) in
      let costs = gains_parted (length P.costs) U (cost_of P) (into_point rows) carried.costs in
      let paid = sum_below-split (length P.links) T (into_charge charges) in
      let paid_in : sum_below (length P.links) (kept T (into_charge charges)) ≤ charge_sum P T =
      sum_below-le (length P.links) _ _ (λ k l. kept-le T (into_charge charges) (charge_of P) k (carried.charged k)) in
      let gains = sum_below-split (length P.links) T (gain_of P) in
      let beside = gains_parted (length P.links) T' (gain_of P) (λ k. from_link rows k + into_charge charges k) carried.gains in
      let both = sum_below-same (length P.links) (kept T' (λ k. from_link rows k + into_charge charges k)) (λ k. kept T' (from_link rows) k + kept T' (into_charge charges) k) (λ k l. kept-add T' (from_link rows) (into_charge charges) k)
      ∙ sum_below-add (length P.links) (kept T' (from_link rows)) (kept T' (into_charge charges)) in
      omega (arith, parts.0, parts.1, first, costs, paid, paid_in, gains, beside, both, charges_by_link P charges carried.listed)

  -- ---- one cost is another
  -- the costs of a set where the point p costs c
  moved : (U : ℕ → Bool) (p c : ℕ) → p < length P.costs → cost_sum (with_cost P p c) U + cond (U p) (cost_of P p) 0 ≡ cost_sum P U + cond (U p) c 0
  moved U p c inside =
      let P' = with_cost P p c in
      let here = get_or-set_same P.costs p c 0 inside in
      let other : (k : ℕ) → k ≢ p → kept U (cost_of P') k ≡ kept U (cost_of P) k = λ k apart. ap (λ (n : ℕ). cond (U k) n 0) (get_or-set_other P.costs p k c 0 apart) in
      let many = length-set P.costs p c in
      let same = sum_below-but (length P.costs) (kept U (cost_of P')) (kept U (cost_of P)) p inside other in
      let value = ap (λ (n : ℕ). cond (U p) n 0) here in
      let count = ap (λ (n : ℕ). sum_below n (kept U (cost_of P'))) many in
      omega (arith, same, value, count)

  -- what links are worth together, as sums
  abbrev S : ℕ → Bool
  S = member plan.links

  tight : gain_sum P S + value_of rows charges ≡ sum_of_gains P + price P S
  tight = equal_sums (gain_sum P S) (price P S) (sum_of_gains P) (value_of rows charges) plan.value h.1.1.1.1.1.1.1.0 h.1.1.1.1.1.1.1.1.0

  chosen_is : (p : ℕ) → member plan.points p ≡ union_of_needs P S p
  chosen_is = h.1.1.0.same

  -- links that need a point which T does not are beside T
  around_beside : (T : ℕ → Bool) (p : ℕ) → union_of_needs P T p ≡ false → left_around P plan p ≤ left_beside T
  around_beside T p none =
      let f : ℕ → ℕ = λ j. cond (needs_point P j p) (left_of P plan j) 0 in
      let listed = listed_sum f (length P.links) plan.links h.1.0 (links_inside P plan h) in
      let each : (k : ℕ) → k < length P.links → kept S f k ≤ kept (λ i. not (T i)) (left_of P plan) k = λ k l.
      elim (cases_Bool (needs_point P k p)) [
        | inl needs ↦
            let beside : T k ≡ false = elim (cases_Bool (T k)) [
              | inl inside ↦ absurd (true≢false (sym (some_below-from (length P.links) (λ j. T j && needs_point P j p) k l (and_from (T k) (needs_point P k p) inside needs)) ∙ none))
              | inr outside ↦ outside
            ] in
            rw (beside, needs) (elim (S k) as (λ (b : Bool). cond b (left_of P plan k) 0 ≤ left_of P plan k) [ true ↦ omega arith | false ↦ omega arith ])
        | inr without ↦ rw without (elim (S k) as (λ (b : Bool). cond b 0 0 ≤ kept (λ i. not (T i)) (left_of P plan) k) [ true ↦ omega arith | false ↦ omega arith ])
      ] in
      let less = sum_below-le (length P.links) (kept S f) (kept (λ i. not (T i)) (left_of P plan)) each in
      omega (arith, listed, less)

  -- what a point lacks is within what the points of a set lack that it is of
  lacks_within : (U : ℕ → Bool) (p : ℕ) → p < length P.costs → U p ≡ true → cost_of P p - into_point rows p ≤ lacked_in U
  lacks_within U p inside of =
      let f = kept U (λ q. cost_of P q - into_point rows q) in
      let up = sum_below-up (length P.costs) (suc p) f inside in
      let here = ap (λ (b : Bool). cond b (cost_of P p - into_point rows p) 0) of in
      omega (arith, up, here)

  chosen_stays : (T : ℕ → Bool) (p c : ℕ) → p < length P.costs → union_of_needs P S p ≡ true → cost_of P p ≤ c → c ≤ cost_of P p + left_around P plan p
      → gain_sum P T + price (with_cost P p c) S ≤ gain_sum P S + price (with_cost P p c) T
  chosen_stays T p c inside chosen up down =
      let ours = moved (union_of_needs P S) p c inside in
      let theirs = moved (union_of_needs P T) p c inside in
      let bound = spent_duality T in
      let one = ap (λ (b : Bool). cond b (cost_of P p) 0) chosen in
      let two = ap (λ (b : Bool). cond b c 0) chosen in
      elim (cases_Bool (union_of_needs P T p)) [
        | inl needed ↦
            omega (arith, ours, theirs, bound, tight, one, two, ap (λ (b : Bool). cond b (cost_of P p) 0) needed, ap (λ (b : Bool). cond b c 0) needed, up)
        | inr spared ↦
            omega (arith, ours, theirs, bound, tight, one, two, ap (λ (b : Bool). cond b (cost_of P p) 0) spared, ap (λ (b : Bool). cond b c 0) spared, around_beside T p spared, down)
      ]

  left_stays : (T : ℕ → Bool) (p c : ℕ) → p < length P.costs → union_of_needs P S p ≡ false → c ≤ cost_of P p → cost_of P p ≤ c + (cost_of P p - into_point rows p)
      → gain_sum P T + price (with_cost P p c) S ≤ gain_sum P S + price (with_cost P p c) T
  left_stays T p c inside left down up =
      let ours = moved (union_of_needs P S) p c inside in
      let theirs = moved (union_of_needs P T) p c inside in
      let bound = spent_duality T in
      let one = ap (λ (b : Bool). cond b (cost_of P p) 0) left in
      let two = ap (λ (b : Bool). cond b c 0) left in
      elim (cases_Bool (union_of_needs P T p)) [
        | inl needed ↦
            omega (arith, ours, theirs, bound, tight, one, two, ap (λ (b : Bool). cond b (cost_of P p) 0) needed, ap (λ (b : Bool). cond b c 0) needed, lacks_within (union_of_needs P T) p inside needed, up, down)
        | inr spared ↦
            omega (arith, ours, theirs, bound, tight, one, two, ap (λ (b : Bool). cond b (cost_of P p) 0) spared, ap (λ (b : Bool). cond b c 0) spared)
      ]

  stays : (p c : ℕ) → p < length P.costs → IsWithinSlack P plan p c → (T : ℕ → Bool) → gain_sum P T + price (with_cost P p c) S ≤ gain_sum P S + price (with_cost P p c) T
  stays p c inside within T = elim (cases_Bool (member plan.points p)) [
    | inl chosen ↦ let w = rw chosen at within in chosen_stays T p c inside (sym (chosen_is p) ∙ chosen) w.0 w.1
    | inr left ↦ let w = rw left at within in left_stays T p c inside (sym (chosen_is p) ∙ left) w.0 w.1
  ]

  pub stays_best : StaysBest P plan
  stays_best p c inside within = record {
    eligible = λ j e. member_is (λ i. (link_at P i).eligible ≡ true) plan.links h.0 j e;
    greatest = λ T others. difference-le (gain_sum P T) (gain_sum P S) (price (with_cost P p c) T) (price (with_cost P p c) S) (stays p c inside within T);
  }
