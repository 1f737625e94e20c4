-- The plan that the parts' runs give together matches the whole problem.
use Rattle.std.proofs.Common.{◌≡◌, ℕ, ◌+◌, ◌≤◌, ◌<◌, List, Bool, true, arith, sym, ◌∙◌, ap, length, subst}
use Rattle.std.specs.Prelude.{◌==◌, All, AllPairs, cond, pos, ◌-ℤ◌, ℤ}
use Rattle.std.specs.List.Sorted.{IsNonDecreasingBy, IsPermutation, IsStrictlyIncreasing}
use Rattle.std.proofs.Math.Path.{fun_ext}
use Rattle.std.proofs.lemmas.List.Sorted.{All-permutation, sum_by-IsPermutation}
use Rattle.mh_cert.specs.Plans.{AreCharges, AreRows, IsUnion, Matches}
use Rattle.mh_network.specs.declared.part.Part.{Part}
use Rattle.mh_network.specs.Problems.{ProblemData, IsProblem, link_at, gain_of, charge_of, cost_of, needs_point, sum_of_gains}
use Rattle.mh_network.specs.Alone.{StandAlone}
use Rattle.mh_network.specs.Parts.{AreParts}
use Rattle.mh_network.specs.Selection.{Row, Charge, IsBefore, IsChargeBefore, IsLeast, member, from_link, into_charge, into_point, union_of_needs, value_of, worth}
use Rattle.mh_flow.specs.FlowData.{FlowData}
use Rattle.mh_plan.specs.Joined.{charge_key, row_key}
use Rattle.mh_plan.specs.Solved.{AreSolved}
use Rattle.mh_plan.proofs.Amounts.{all_charged, all_charged_once, all_charges, all_costs, all_gains, all_listed, all_needed, all_once, all_paid, all_positive, all_rows}
use Rattle.mh_plan.proofs.Best.{chosen, chosen_below, least_chosen, worth_chosen}
use Rattle.mh_plan.proofs.Members.{all_members, member_is}
use Rattle.mh_plan.proofs.Order.{charges_ordered, is_at, sorted_ordered}

module _ (P : ProblemData) (problem : IsProblem P) (parts : List Part) (are : AreParts P parts) (alone : StandAlone P parts) (run : ℕ → FlowData) (solved : AreSolved P parts run) where
  pub links_inside : (links : List ℕ) → ((j : ℕ) → member links j ≡ member (chosen P parts are alone run solved) j) → All (λ j. j < length P.links) links
  links_inside links same =
      all_members (λ j. j < length P.links) links (λ j e. member_is (λ i. i < length P.links) (chosen P parts are alone run solved) (chosen_below P parts are alone run solved) j (sym (same j) ∙ e))

  pub links_least : (links : List ℕ) → ((j : ℕ) → member links j ≡ member (chosen P parts are alone run solved) j) → IsLeast P (member links)
  links_least links same = subst (λ (S : ℕ → Bool). IsLeast P S) (sym (fun_ext same)) (least_chosen P parts are alone run solved)

  module _ (rows : List Row) (charges : List Charge) (moved : IsPermutation (all_rows P parts are alone run solved) rows) (moved_charges : IsPermutation (all_charges P parts are alone run solved) charges) where
    pub rows_needed : All (λ r. needs_point P r.0 r.1 ≡ true) rows
    rows_needed = All-permutation (λ (r : Row). needs_point P r.0 r.1 ≡ true) _ rows moved (all_needed P parts are alone run solved)

    pub charges_listed : All (λ r. r.0 < length P.links) charges
    charges_listed = All-permutation (λ (r : Charge). r.0 < length P.links) _ charges moved_charges (all_listed P parts are alone run solved)

    paid_same : (j : ℕ) → into_charge (all_charges P parts are alone run solved) j ≡ into_charge charges j
    paid_same j = sym (sum_by-IsPermutation (λ (r : Charge). cond (r.0 == j) r.1 0) _ charges moved_charges)

    pub gains_kept : (j : ℕ) → from_link rows j + into_charge charges j ≤ gain_of P j
    gains_kept j = omega (arith, sum_by-IsPermutation (λ (r : Row). cond (r.0 == j) r.2 0) _ rows moved, paid_same j, all_gains P parts are alone run solved j)

    costs_kept : (p : ℕ) → into_point rows p ≤ cost_of P p
    costs_kept p = omega (arith, sum_by-IsPermutation (λ (r : Row). cond (r.1 == p) r.2 0) _ rows moved, all_costs P parts are alone run solved p)

    charges_kept : (j : ℕ) → into_charge charges j ≤ charge_of P j
    charges_kept j = omega (arith, paid_same j, all_charged P parts are alone run solved j)

    rows_ordered : IsNonDecreasingBy row_key rows → AllPairs IsBefore rows
    rows_ordered sorted =
        sorted_ordered rows sorted
        (λ k d l. let inside = problem.in_range _ _ (rows_needed k d l) in omega (arith, inside, problem.points))
        (λ j p. omega (arith, sum_by-IsPermutation (λ r. cond (is_at j p r) 1 0) _ rows moved, all_once P parts are alone run solved j p))

    charges_rise : IsNonDecreasingBy charge_key charges → AllPairs IsChargeBefore charges
    charges_rise sorted =
        charges_ordered charges sorted
        (λ j. omega (arith, sum_by-IsPermutation (λ (r : Charge). cond (r.0 == j) 1 0) _ charges moved_charges, all_charged_once P parts are alone run solved j))

    pub matched : (links points : List ℕ) (worths : ℤ) → IsNonDecreasingBy row_key rows → IsNonDecreasingBy charge_key charges →
        IsStrictlyIncreasing links → ((j : ℕ) → member links j ≡ member (chosen P parts are alone run solved) j) →
        IsStrictlyIncreasing points → ((p : ℕ) → member points p ≡ union_of_needs P (member links) p) →
        worths ≡ pos (sum_of_gains P) -ℤ pos (value_of rows charges) → Matches P record { links = links; points = points; value = worths; flow = rows; charges = charges }
    matched links points worths sorted sorted_charges rising same up needed balance =
        let least = links_least links same in
        let carried : value_of rows charges ≡ value_of (all_rows P parts are alone run solved) (all_charges P parts are alone run solved) =
        omega (arith, sum_by-IsPermutation (λ (r : Row). r.2) _ rows moved, sum_by-IsPermutation (λ (r : Charge). r.1) _ charges moved_charges) in
        let worth_here : worth P (member links) ≡ pos (sum_of_gains P) -ℤ pos (value_of rows charges) =
        ap (worth P) (fun_ext same) ∙ (worth_chosen P parts are alone run solved ∙ ap (λ (v : ℕ). pos (sum_of_gains P) -ℤ pos v) (sym carried)) in
        let are_rows : AreRows P rows = record {
          needed = rows_needed;
          positive = All-permutation (λ (r : Row). 0 < r.2) _ rows moved (all_positive P parts are alone run solved);
          ordered = rows_ordered sorted;
        } in
        let are_charges : AreCharges P charges = record {
          listed = charges_listed;
          positive = All-permutation (λ (r : Charge). 0 < r.1) _ charges moved_charges (all_paid P parts are alone run solved);
          ordered = charges_rise sorted_charges;
        } in
        let is_union : IsUnion P links points = record { ascending = up; same = needed } in
        let eligible = all_members (λ j. (link_at P j).eligible ≡ true) links (λ j e. least.best.eligible j e) in
        (eligible, (rising, (is_union, ((are_rows, are_charges), (gains_kept, (costs_kept, (charges_kept, (balance ∙ sym worth_here, (balance, tt)))))))))
