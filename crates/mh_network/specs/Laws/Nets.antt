-- Best and least best links by net gains: whether a link is eligible, and its charge, no longer count.
use Rattle.std.proofs.Common.{◌≡◌, ℕ, ◌+◌, ◌-◌, ◌≤◌, ◌<◌, Bool, true, false, cond, refl, arith, sym, inl, inr, length}
use Rattle.std.specs.Prelude.{◌&&◌, pos, ◌-ℤ◌, ◌≤ℤ◌, nat_lt}
use Rattle.std.proofs.lemmas.Int.{ints}
use Rattle.std.proofs.lemmas.Bool.{cases_Bool, true≢false, and_parts, ltb-true, lt-ltb}
use Rattle.mh_network.specs.Sums.{sum_below, kept}
use Rattle.mh_network.specs.Problems.{ProblemData, link_at, gain_of, charge_of, cost_of}
use Rattle.mh_network.specs.Selection.{union_of_needs, gain_sum, charge_sum, price, worth, AllEligible, IsBest, IsLeast}
use Rattle.mh_network.specs.Scales.{net_of, net_sum, paid}
use Rattle.mh_network.specs.Laws.Halves.{IsWithin, kept_within, needs_within}
use Rattle.mh_network.specs.Laws.SumLaws.{sum_below-add, sum_below-le, sum_below-same}

abbrev pub every : ℕ → Bool
every _ = true

-- less the costs of points, T gains no more than S
abbrev pub NetNoBetter : ProblemData → (ℕ → Bool) → (ℕ → Bool) → Type 0
NetNoBetter P T S = net_sum P T + paid P S ≤ net_sum P S + paid P T

-- among the sets within A
pub record IsNetBest (P : ProblemData) (A S : ℕ → Bool) : Type 0 where
  pub inside : IsWithin S A
  pub greatest : (T : ℕ → Bool) → IsWithin T A → NetNoBetter P T S

pub record IsNetLeast (P : ProblemData) (A S : ℕ → Bool) : Type 0 where
  pub best : IsNetBest P A S
  pub least : (T : ℕ → Bool) → IsNetBest P A T → IsWithin S T

-- the links of S that gain more than their charge
abbrev pub gaining : ProblemData → (ℕ → Bool) → ℕ → Bool
gaining P S j = S j && nat_lt 0 (net_of P j)

row_eligible : (e : Bool) (g c : ℕ) → 0 < cond e g 0 - c → e ≡ true
row_eligible true g c l = refl
row_eligible false g c l = absurd (omega arith)

pub gaining_eligible : (P : ProblemData) (S : ℕ → Bool) → AllEligible P (gaining P S)
gaining_eligible P S j e = row_eligible (link_at P j).eligible (gain_of P j) (charge_of P j) (ltb-true 0 (net_of P j) (and_parts (S j) (nat_lt 0 (net_of P j)) e).1)

pub gaining_within : (P : ProblemData) (S : ℕ → Bool) → IsWithin (gaining P S) S
gaining_within P S j e = (and_parts (S j) (nat_lt 0 (net_of P j)) e).0

kept_gaining : (s : Bool) (n : ℕ) → cond (s && nat_lt 0 n) n 0 ≡ cond s n 0
kept_gaining true n = elim (cases_Bool (nat_lt 0 n)) [
  | inl e ↦ rw e refl
  | inr e ↦
      let none : n ≡ 0 = grind (arith, lt-ltb 0 n, e, true≢false) in
      rw (e, none) refl
]
kept_gaining false n = refl

-- the others add nothing
pub gaining_net : (P : ProblemData) (S : ℕ → Bool) → net_sum P (gaining P S) ≡ net_sum P S
gaining_net P S = sum_below-same (length P.links) _ _ (λ j l. kept_gaining (S j) (net_of P j))

whole_row : (e : Bool) (g c : ℕ) → e ≡ true → 0 < cond e g 0 - c → g ≡ (cond e g 0 - c) + c
whole_row true g c f l = omega arith
whole_row false g c f l = absurd (true≢false (sym f))

row_within : (e : Bool) (g c : ℕ) → e ≡ true → g ≤ (cond e g 0 - c) + c
row_within true g c f = omega arith
row_within false g c f = absurd (true≢false (sym f))

-- the gains of eligible links are at most their net gains and charges
pub gains_net : (P : ProblemData) (S : ℕ → Bool) → AllEligible P S → gain_sum P S ≤ net_sum P S + charge_sum P S
gains_net P S fits =
    let each : gain_sum P S ≤ sum_below (length P.links) (λ j. kept S (net_of P) j + kept S (charge_of P) j) =
    sum_below-le (length P.links) _ _ (λ j l. elim (cases_Bool (S j)) [
      | inl e ↦ rw e (row_within (link_at P j).eligible (gain_of P j) (charge_of P j) (fits j e))
      | inr e ↦ rw e (omega arith)
    ]) in
    omega (arith, each, sum_below-add (length P.links) (kept S (net_of P)) (kept S (charge_of P)))

-- and the gains of links that gain more than their charge are exactly that
pub gaining_gains : (P : ProblemData) (S : ℕ → Bool) → gain_sum P (gaining P S) ≡ net_sum P S + charge_sum P (gaining P S)
gaining_gains P S =
    let G : ℕ → Bool = gaining P S in
    let each : gain_sum P G ≡ sum_below (length P.links) (λ j. kept G (net_of P) j + kept G (charge_of P) j) =
    sum_below-same (length P.links) _ _ (λ j l. elim (cases_Bool (G j)) [
      | inl e ↦
          let more : 0 < net_of P j = ltb-true 0 (net_of P j) (and_parts (S j) (nat_lt 0 (net_of P j)) e).1 in
          rw e (whole_row (link_at P j).eligible (gain_of P j) (charge_of P j) (gaining_eligible P S j e) more)
      | inr e ↦ rw e refl
    ]) in
    omega (arith, each, sum_below-add (length P.links) (kept G (net_of P)) (kept G (charge_of P)), gaining_net P S)

pub paid_within : (P : ProblemData) (S A : ℕ → Bool) → IsWithin S A → paid P S ≤ paid P A
paid_within P S A h = sum_below-le (length P.costs) _ _ (λ p l. kept_within (union_of_needs P S) (union_of_needs P A) (cost_of P) p (needs_within P S A h p))

-- T is worth no more than S
abbrev pub NoBetter : ProblemData → (ℕ → Bool) → (ℕ → Bool) → Type 0
NoBetter P T S = gain_sum P T + price P S ≤ gain_sum P S + price P T

difference-back : (a b c d : ℕ) → (pos a -ℤ pos c) ≤ℤ (pos b -ℤ pos d) → a + d ≤ b + c
difference-back a b c d h = omega (arith, ints)

difference-le : (a b c d : ℕ) → a + d ≤ b + c → (pos a -ℤ pos c) ≤ℤ (pos b -ℤ pos d)
difference-le a b c d h = omega (arith, ints)

pub no_better : (P : ProblemData) (T S : ℕ → Bool) → worth P T ≤ℤ worth P S → NoBetter P T S
no_better P T S h = difference-back _ _ _ _ h

pub worth_le : (P : ProblemData) (T S : ℕ → Bool) → NoBetter P T S → worth P T ≤ℤ worth P S
worth_le P T S h = difference-le _ _ _ _ h

-- best, and least best, among the eligible links within A
pub record IsBestWithin (P : ProblemData) (A S : ℕ → Bool) : Type 0 where
  pub inside : IsWithin S A
  pub eligible : AllEligible P S
  pub greatest : (T : ℕ → Bool) → AllEligible P T → IsWithin T A → NoBetter P T S

pub record IsLeastWithin (P : ProblemData) (A S : ℕ → Bool) : Type 0 where
  pub best : IsBestWithin P A S
  pub least : (T : ℕ → Bool) → IsBestWithin P A T → IsWithin S T

pub net_best : (P : ProblemData) (A S : ℕ → Bool) → IsBestWithin P A S → IsNetBest P A S
net_best P A S best = record {
  inside = best.inside;
  greatest = λ T within.
      let G : ℕ → Bool = gaining P T in
      let h = best.greatest G (gaining_eligible P T) (λ j e. within j (gaining_within P T j e)) in
      omega (arith, h, gaining_gains P T, gains_net P S best.eligible, paid_within P G T (gaining_within P T));
}

pub net_least : (P : ProblemData) (A S : ℕ → Bool) → IsLeastWithin P A S → IsNetLeast P A S
net_least P A S least = record {
  best = net_best P A S least.best;
  least = λ T best j e.
      let G : ℕ → Bool = gaining P T in
      let h = best.greatest S least.best.inside in
      let other : IsBestWithin P A G = record {
        inside = λ i f. best.inside i (gaining_within P T i f);
        eligible = gaining_eligible P T;
        greatest = λ U fits within.
            omega (arith, h, least.best.greatest U fits within, gaining_gains P T, gains_net P S least.best.eligible, paid_within P G T (gaining_within P T));
      } in
      gaining_within P T j (least.least G other j e);
}

pub best_of : (P : ProblemData) (S : ℕ → Bool) → IsBest P S → IsBestWithin P every S
best_of P S best = record {
  inside = λ j e. refl;
  eligible = best.eligible;
  greatest = λ T fits within. no_better P T S (best.greatest T fits);
}

pub best_from : (P : ProblemData) (S : ℕ → Bool) → IsBestWithin P every S → IsBest P S
best_from P S best = record {
  eligible = best.eligible;
  greatest = λ T fits. worth_le P T S (best.greatest T fits (λ j e. refl));
}

pub best_net : (P : ProblemData) (S : ℕ → Bool) → IsBest P S → IsNetBest P every S
best_net P S best = net_best P every S (best_of P S best)

pub least_net : (P : ProblemData) (S : ℕ → Bool) → IsLeast P S → IsNetLeast P every S
least_net P S least = net_least P every S record {
  best = best_of P S least.best;
  least = λ T best. least.least T (best_from P T best);
}

-- and the converse
pub net_least_gaining : (P : ProblemData) (A S : ℕ → Bool) → IsNetLeast P A S → IsWithin S (gaining P S)
net_least_gaining P A S least =
    let G : ℕ → Bool = gaining P S in
    least.least G record {
      inside = λ j e. least.best.inside j (gaining_within P S j e);
      greatest = λ T within. omega (arith, least.best.greatest T within, gaining_net P S, paid_within P G S (gaining_within P S));
    }

pub least_from : (P : ProblemData) (S : ℕ → Bool) → IsNetLeast P every S → IsLeast P S
least_from P S least =
    let gains = net_least_gaining P every S least in
    let fits : AllEligible P S = λ j e. gaining_eligible P S j (gains j e) in
    let each : (f : ℕ → ℕ) → sum_below (length P.links) (kept S f) ≡ sum_below (length P.links) (kept (gaining P S) f) = λ f.
    sum_below-same (length P.links) _ _ (λ j l. elim (cases_Bool (S j)) [
      | inl e ↦ rw (e, (and_parts (S j) (nat_lt 0 (net_of P j)) (gains j e)).1) refl
      | inr e ↦ rw e refl
    ]) in
    let sums : gain_sum P S ≡ net_sum P S + charge_sum P S = omega (arith, each (gain_of P), each (charge_of P), gaining_gains P S) in
    record {
      best = record {
        eligible = fits;
        greatest = λ T others.
            let more : NoBetter P T S = omega (arith, sums, gains_net P T others, least.best.greatest T (λ j e. refl)) in
            worth_le P T S more;
      };
      least = λ T best. least.least T (best_net P T best);
    }
