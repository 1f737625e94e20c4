-- Links whose worth and a flow add up to all gains are best.
use Rattle.std.proofs.Common.{◌≡◌, ℕ, zero, suc, ◌+◌, ◌-◌, ◌≤◌, ◌<◌, List, Bool, true, false, cond, arith, sym, ◌∙◌, ap, inl, inr, length, subst}
use Rattle.std.specs.List.{sum_by, All, list_any}
use Rattle.std.specs.Prelude.{pos, ◌-ℤ◌, ◌+ℤ◌, ◌≤ℤ◌}
use Rattle.std.proofs.lemmas.Int.{ints}
use Rattle.std.proofs.lemmas.List.{get_or_past}
use Rattle.std.specs.Prelude.{◌==◌}
use Rattle.std.proofs.lemmas.Bool.{cases_Bool, true≢false, cases_lt, and_from, or_left, or_right}
use Rattle.mh_network.specs.Sums.{kept, some_below, sum_below}
use Rattle.mh_network.specs.Laws.Net.{net, Net, out_of, into, IsFeasible}
use Rattle.mh_network.specs.declared.link_row.LinkRow.{LinkRow}
use Rattle.mh_network.specs.Problems.{ProblemData, IsProblem, link_at, gain_of, charge_of, cost_of, needs_point, sum_of_gains, no_link}
use Rattle.mh_network.specs.Selection.{Row, Charge, union_of_needs, gain_sum, charge_sum, price, worth, into_charge, value_of, AllEligible, IsBest, IsFlow}
use Rattle.mh_network.specs.Laws.Duality.{IsCover, weak_duality}
use Rattle.mh_network.specs.Laws.SumLaws.{sum_below-add, sum_below-le, sum_below-same, sum_by_keys}

pub some_below-from : (n : ℕ) (p : ℕ → Bool) (k : ℕ) → k < n → p k ≡ true → some_below n p ≡ true
some_below-from zero p k l h = absurd (omega arith)
some_below-from (suc n) p k l h =
    elim (cases_lt k n) [
      | inl m ↦ or_right (p n) (some_below n p) (some_below-from n p k m h)
      | inr m ↦
          let e : k ≡ n = omega arith in
          or_left (p n) (some_below n p) (subst (λ (i : ℕ). p i ≡ true) e h)
    ]

pub some_below-gives : (n : ℕ) (p : ℕ → Bool) → some_below n p ≡ true → (k : ℕ) × (k < n) × (p k ≡ true)
some_below-gives zero p h = absurd (true≢false (sym h))
some_below-gives (suc n) p h =
    elim (cases_Bool (p n)) [
      | inl e ↦ (n, omega arith, e)
      | inr e ↦
          let rest : some_below n p ≡ true = rw e at h in
          let found = some_below-gives n p rest in
          (found.0, omega (arith, found.1), found.2)
    ]

-- a link that needs a point is a link of the problem
pub needs-in_range : (P : ProblemData) (j p : ℕ) → needs_point P j p ≡ true → j < length P.links
needs-in_range P j p h =
    elim (cases_lt j (length P.links)) [
      | inl m ↦ m
      | inr m ↦
          let none : link_at P j ≡ no_link = get_or_past P.links j no_link m in
          let empty : list_any (λ q. q == p) (link_at P j).needs ≡ false = ap (λ (l : LinkRow). list_any (λ q. q == p) l.needs) none in
          absurd (true≢false (sym h ∙ empty))
    ]

-- rows over the needs and charges, with each link within its gain, each point within its cost, each charge within its amount
pub record IsCarried {X : Type 0} (P : ProblemData) (n : Net X) (rows : List X) (charges : List Charge) : Type 0 where
  pub needed : All (λ r. needs_point P (n.link r) (n.point r) ≡ true) rows
  pub listed : All (λ r. r.0 < length P.links) charges
  pub gains : (j : ℕ) → out_of n rows j + into_charge charges j ≤ gain_of P j
  pub costs : (p : ℕ) → into n rows p ≤ cost_of P p
  pub charged : (j : ℕ) → into_charge charges j ≤ charge_of P j

pub feasible : {X : Type 0} (P : ProblemData) (link point amount : X → ℕ) (rows : List X) (charges : List Charge) → IsProblem P →
    IsCarried P (net P charges link point amount) rows charges → IsFeasible (net P charges link point amount) rows
feasible P link point amount rows charges problem flow = record {
  links = λ k d l. needs-in_range P _ _ (flow.needed k d l);
  points = λ k d l. problem.in_range _ _ (flow.needed k d l);
  gains = λ k l. omega (arith, flow.gains k);
  costs = λ p l. flow.costs p;
}

pub covered : {X : Type 0} (P : ProblemData) (link point amount : X → ℕ) (rows : List X) (charges : List Charge) (S : ℕ → Bool) →
    IsCarried P (net P charges link point amount) rows charges → IsCover (net P charges link point amount) rows S (union_of_needs P S)
covered P link point amount rows charges S flow = record {
  covers = λ k d l chosen.
      some_below-from (length P.links) _ _ (needs-in_range P _ _ (flow.needed k d l)) (and_from _ _ chosen (flow.needed k d l));
}

-- the parts of the gains of a set that charges leave and that they take add up to the gains
pub gains_parted : (n : ℕ) (S : ℕ → Bool) (gain paid : ℕ → ℕ) → ((k : ℕ) → paid k ≤ gain k) →
    sum_below n (kept S (λ k. gain k - paid k)) + sum_below n (kept S paid) ≡ sum_below n (kept S gain)
gains_parted n S gain paid within =
    let each : (k : ℕ) → k < n → kept S (λ i. gain i - paid i) k + kept S paid k ≡ kept S gain k = λ k l.
    elim (S k) as (λ b. cond b (gain k - paid k) 0 + cond b (paid k) 0 ≡ cond b (gain k) 0) [ true ↦ omega (arith, within k) | false ↦ omega arith ] in
    sym (sum_below-add n (kept S (λ k. gain k - paid k)) (kept S paid)) ∙ sum_below-same n _ _ each

-- the charges' rows, added up by link
pub charges_by_link : (P : ProblemData) (charges : List Charge) → All (λ r. r.0 < length P.links) charges → sum_by (λ (r : Charge). r.1) charges ≡ sum_below (length P.links) (into_charge charges)
charges_by_link P charges listed = sum_by_keys (λ (r : Charge). r.0) (λ r. r.1) (λ _. true) (length P.links) charges listed

paid-le : (S : ℕ → Bool) (f g : ℕ → ℕ) (k : ℕ) → f k ≤ g k → kept S f k ≤ kept S g k
paid-le S f g k h = elim (S k) as (λ b. cond b (f k) 0 ≤ cond b (g k) 0) [ true ↦ h | false ↦ omega arith ]

-- the gains of a set of links and the value of a flow are within all gains and what the set pays
pub charged_duality : {X : Type 0} (P : ProblemData) (link point amount : X → ℕ) (rows : List X) (charges : List Charge) (S : ℕ → Bool) → IsProblem P →
    IsCarried P (net P charges link point amount) rows charges →
    gain_sum P S + (sum_by amount rows + sum_by (λ (r : Charge). r.1) charges) ≤ sum_of_gains P + price P S
charged_duality P link point amount rows charges S problem flow =
    let n = net P charges link point amount in
    let weak = weak_duality n rows S (union_of_needs P S) (feasible P link point amount rows charges problem flow) (covered P link point amount rows charges S flow) in
    let within : (k : ℕ) → into_charge charges k ≤ gain_of P k = λ k. omega (arith, flow.gains k) in
    let some = gains_parted (length P.links) S (gain_of P) (into_charge charges) within in
    let all : sum_below (length P.links) (λ k. gain_of P k - into_charge charges k) + sum_below (length P.links) (into_charge charges) ≡ sum_of_gains P =
    gains_parted (length P.links) (λ _. true) (gain_of P) (into_charge charges) within in
    let paid : sum_below (length P.links) (kept S (into_charge charges)) ≤ charge_sum P S =
    sum_below-le (length P.links) _ _ (λ k l. paid-le S (into_charge charges) (charge_of P) k (flow.charged k)) in
    omega (arith, weak, some, all, paid, charges_by_link P charges flow.listed)

difference-le : (a b c d : ℕ) → a + d ≤ b + c → (pos a -ℤ pos c) ≤ℤ (pos b -ℤ pos d)
difference-le a b c d h = omega (arith, ints)

pub best_by_flow : {X : Type 0} (P : ProblemData) (link point amount : X → ℕ) (rows : List X) (charges : List Charge) (S : ℕ → Bool) → IsProblem P →
    IsCarried P (net P charges link point amount) rows charges → AllEligible P S →
    gain_sum P S + (sum_by amount rows + sum_by (λ (r : Charge). r.1) charges) ≡ sum_of_gains P + price P S → IsBest P S
best_by_flow P link point amount rows charges S problem flow eligible tight = record {
  eligible = eligible;
  greatest = λ T others.
      let weak = charged_duality P link point amount rows charges T problem flow in
      let less : gain_sum P T + price P S ≤ gain_sum P S + price P T = omega (arith, weak, tight) in
      difference-le _ _ _ _ less;
}

bounded : (g a v c : ℕ) → a + v ≤ g + c → ((pos a -ℤ pos c) +ℤ pos v) ≤ℤ pos g
bounded g a v c h = omega (arith, ints)

-- the worth of a set of links and the value of a flow are within all gains
pub flow_bounds : (P : ProblemData) → IsProblem P → (rows : List Row) → (charges : List Charge) → IsFlow P rows charges → (S : ℕ → Bool) → (worth P S +ℤ pos (value_of rows charges)) ≤ℤ pos (sum_of_gains P)
flow_bounds P problem rows charges flow S =
    bounded (sum_of_gains P) (gain_sum P S) (value_of rows charges) (price P S)
    (charged_duality P (λ (r : Row). r.0) (λ r. r.1) (λ r. r.2) rows charges S problem
    (record { needed = flow.needed; listed = flow.listed; gains = flow.gains; costs = flow.costs; charged = flow.charged }))
