-- What the parts' flows carry together: within each gain and cost, and each row once.
use Rattle.std.proofs.Common.{◌≡◌, ℕ, zero, suc, ◌+◌, ◌≤◌, ◌<◌, List, [], ◌∷◌, Bool, true, false, cond, refl, arith, sym, ◌∙◌, ap, inl, inr, length, map, get_or}
use Rattle.std.specs.Prelude.{◌==◌, All, AllPairs}
use Rattle.std.specs.List.Sorted.{IsStrictlyIncreasing}
use Rattle.std.proofs.lemmas.Bool.{cases_Bool, true≢false, eqb-true, eq-eqb, ne_eqb, and_parts, cond-true, cond-false}
use Rattle.std.proofs.lemmas.List.{get_or-map, length-map}
use Rattle.std.proofs.lemmas.List.Elements.{All-head, All-tail, All-map}
use Rattle.std.proofs.lemmas.List.Kept.{AllPairs-cons, AllPairs-from_increasing}
use Rattle.std.proofs.lemmas.List.Sums.{sum_by-cons}
use Rattle.mh_network.specs.declared.link_row.LinkRow.{LinkRow}
use Rattle.mh_network.specs.declared.part.Part.{Part}
use Rattle.mh_network.specs.Laws.SumLaws.{sum_below-add}
use Rattle.mh_network.specs.Sums.{amount_at}
use Rattle.mh_network.specs.Problems.{ProblemData, link_at, gain_of, charge_of, cost_of, needs_point, no_link}
use Rattle.mh_network.specs.Alone.{AreNumbered, StandAlone}
use Rattle.mh_network.specs.Parts.{AreParts, part_at, place_of, part_row, part_problem}
use Rattle.mh_network.specs.Parts.Item.{link, point}
use Rattle.mh_network.specs.Parts.IsJoined.{here}
use Rattle.mh_network.specs.Selection.{Row, Charge, IsBefore, IsChargeBefore, member, from_link, into_charge, into_point}
use Rattle.mh_flow.specs.FlowData.{FlowData}
use Rattle.mh_plan.specs.Joined.{joined, charges_of, rows_of, whole_charge, whole_row}
use Rattle.mh_plan.specs.Solved.{AreSolved}
use Rattle.mh_plan.proofs.Members.{num, same_answer}
use Rattle.mh_plan.proofs.Concat.{joined_sum, joined_all, sum_map, one_within}
use Rattle.mh_plan.proofs.Order.{is_at, count, none_pass, one_passes, rows_apart, charges_apart}

-- numbers of a list and places in it are tested alike
same_place : (xs : List ℕ) → AreNumbered xs → (k j : ℕ) → k < length xs → member xs j ≡ true → (num xs k == j) ≡ (k == place_of xs j)
same_place xs numbered k j l inside =
    let there = numbered.place j inside in
    same_answer (num xs k == j) (k == place_of xs j)
    (λ e. eq-eqb k (place_of xs j) (sym (numbered.number k l).1 ∙ ap (place_of xs) (eqb-true (num xs k) j e)))
    (λ e. eq-eqb (num xs k) j (ap (num xs) (eqb-true k (place_of xs j) e) ∙ there.1))

other_place : (xs : List ℕ) → AreNumbered xs → (k j : ℕ) → k < length xs → member xs j ≡ false → (num xs k == j) ≡ false
other_place xs numbered k j l outside = ne_eqb (num xs k) j (λ e. true≢false (sym (sym (ap (member xs) e) ∙ (numbered.number k l).0) ∙ outside))

cond_none : (b : Bool) → cond {A = ℕ} b 0 0 ≡ 0
cond_none true = refl
cond_none false = refl

-- the amounts of a number are those of its place
pub amount_there : {X : Type 0} (key amount : X → ℕ) (xs : List ℕ) → AreNumbered xs → (rows : List X) → All (λ r. key r < length xs) rows → (j : ℕ) →
    amount_at (λ r. num xs (key r)) amount rows j ≡ cond (member xs j) (amount_at key amount rows (place_of xs j)) 0
amount_there key amount xs numbered [] h j = sym (cond_none (member xs j))
amount_there key amount xs numbered (r ∷ rs) h j =
    let l : key r < length xs = All-head (λ x. key x < length xs) r rs h in
    let rest = amount_there key amount xs numbered rs (All-tail (λ x. key x < length xs) r rs h) j in
    let whole = sum_by-cons (λ x. cond (num xs (key x) == j) (amount x) 0) r rs in
    elim (cases_Bool (member xs j)) [
      | inl inside ↦
          let test : cond (num xs (key r) == j) (amount r) 0 ≡ cond (key r == place_of xs j) (amount r) 0 = ap (λ (b : Bool). cond b (amount r) 0) (same_place xs numbered (key r) j l inside) in
          let left : amount_at (λ x. num xs (key x)) amount rs j ≡ amount_at key amount rs (place_of xs j) = rest ∙ cond-true (member xs j) _ 0 inside in
          let right : cond (member xs j) (amount_at key amount (r ∷ rs) (place_of xs j)) 0 ≡ amount_at key amount (r ∷ rs) (place_of xs j) = cond-true (member xs j) _ 0 inside in
          omega (arith, whole, test, left, right, sum_by-cons (λ x. cond (key x == place_of xs j) (amount x) 0) r rs)
      | inr outside ↦
          let test : cond (num xs (key r) == j) (amount r) 0 ≡ 0 = cond-false (num xs (key r) == j) (amount r) 0 (other_place xs numbered (key r) j l outside) in
          let left : amount_at (λ x. num xs (key x)) amount rs j ≡ 0 = rest ∙ cond-false (member xs j) _ 0 outside in
          let right : cond (member xs j) (amount_at key amount (r ∷ rs) (place_of xs j)) 0 ≡ 0 = cond-false (member xs j) _ 0 outside in
          omega (arith, whole, test, left, right)
    ]

num_rises : (xs : List ℕ) → IsStrictlyIncreasing xs → (i k : ℕ) → i < k → k < length xs → num xs i < num xs k
num_rises xs rising i k l m = AllPairs-from_increasing xs rising i k 0 l m

-- the rows of a part that are in order are so by the numbers of the whole
pub whole_ordered : (part : Part) → IsStrictlyIncreasing part.links → IsStrictlyIncreasing part.points → (rows : List Row) → All (λ r. r.0 < length part.links) rows → All (λ r. r.1 < length part.points) rows → AllPairs IsBefore rows →
    AllPairs IsBefore (map (whole_row part) rows)
whole_ordered part links points [] f g h = λ i k d l m. absurd (omega (arith, m))
whole_ordered part links points (r ∷ rs) f g h =
    let low : r.0 < length part.links = All-head (λ x. x.0 < length part.links) r rs f in
    AllPairs-cons IsBefore (whole_row part r) (map (whole_row part) rs)
    (All-map (IsBefore (whole_row part r)) (whole_row part) rs (λ k d l.
    let later : IsBefore r (get_or rs k d) = h zero (suc k) d (omega arith) (omega (arith, l)) in
    elim later [
      | inl less ↦ inl (num_rises part.links links r.0 (get_or rs k d).0 less (f (suc k) d (omega (arith, l))))
      | inr tied ↦ inr (ap (num part.links) tied.0, num_rises part.points points r.1 (get_or rs k d).1 tied.1 (g (suc k) d (omega (arith, l))))
    ]))
    (whole_ordered part links points rs (All-tail (λ x. x.0 < length part.links) r rs f) (All-tail (λ x. x.1 < length part.points) r rs g) (λ i k d l m. h (suc i) (suc k) d (omega (arith, l)) (omega (arith, m))))

module _ (P : ProblemData) (parts : List Part) (are : AreParts P parts) (alone : StandAlone P parts) (run : ℕ → FlowData) (solved : AreSolved P parts run) where
  pub links_below : (i : ℕ) → i < length parts → All (λ r. r.0 < length (part_at parts i).links) (run i).rows
  links_below i l k d m = (alone.inside i _ _ ((solved i l).flow.needed k d m)).0

  pub points_below : (i : ℕ) → i < length parts → All (λ r. r.1 < length (part_at parts i).points) (run i).rows
  points_below i l k d m = (alone.inside i _ _ ((solved i l).flow.needed k d m)).1

  pub part_needed : (i : ℕ) → i < length parts → All (λ r. needs_point P r.0 r.1 ≡ true) (rows_of parts run i)
  part_needed i l =
      All-map (λ (r : Row). needs_point P r.0 r.1 ≡ true) (whole_row (part_at parts i)) (run i).rows
      (λ k d m. sym (alone.needs i _ _ (links_below i l k d m) (points_below i l k d m)) ∙ (solved i l).flow.needed k d m)

  part_positive : (i : ℕ) → i < length parts → All (λ r. 0 < r.2) (rows_of parts run i)
  part_positive i l = All-map (λ (r : Row). 0 < r.2) (whole_row (part_at parts i)) (run i).rows (λ k d m. (solved i l).positive k d m)

  pub charges_below : (i : ℕ) → i < length parts → All (λ r. r.0 < length (part_at parts i).links) (run i).charges
  charges_below i l k d m = omega (arith, (solved i l).flow.listed k d m, length-map (part_at parts i).links (part_row P (part_at parts i)))

  part_listed : (i : ℕ) → i < length parts → All (λ r. r.0 < length P.links) (charges_of parts run i)
  part_listed i l =
      All-map (λ (r : Charge). r.0 < length P.links) (whole_charge (part_at parts i)) (run i).charges
      (λ k d m. (alone.part i).links_in _ ((alone.links i).number (get_or (run i).charges k d).0 (charges_below i l k d m)).0)

  part_paid : (i : ℕ) → i < length parts → All (λ r. 0 < r.1) (charges_of parts run i)
  part_paid i l = All-map (λ (r : Charge). 0 < r.1) (whole_charge (part_at parts i)) (run i).charges (λ k d m. (solved i l).paid k d m)

  -- what a link has in its part
  link_there : (j i : ℕ) → member (part_at parts i).links j ≡ true → link_at (part_problem P (part_at parts i)) (place_of (part_at parts i).links j) ≡ part_row P (part_at parts i) j
  link_there j i inside =
      let xs : List ℕ = (part_at parts i).links in
      let at = (alone.links i).place j inside in
      get_or-map (part_row P (part_at parts i)) xs (place_of xs j) 0 no_link at.0 ∙ ap (part_row P (part_at parts i)) at.1

  rows_there : (j i : ℕ) → i < length parts → from_link (rows_of parts run i) j ≡ cond (member (part_at parts i).links j) (from_link (run i).rows (place_of (part_at parts i).links j)) 0
  rows_there j i l =
      sum_map (λ (r : Row). cond (r.0 == j) r.2 0) (whole_row (part_at parts i)) (run i).rows
      ∙ amount_there (λ (r : Row). r.0) (λ r. r.2) (part_at parts i).links (alone.links i) (run i).rows (links_below i l) j

  charges_there : (j i : ℕ) → i < length parts → into_charge (charges_of parts run i) j ≡ cond (member (part_at parts i).links j) (into_charge (run i).charges (place_of (part_at parts i).links j)) 0
  charges_there j i l =
      sum_map (λ (r : Charge). cond (r.0 == j) r.1 0) (whole_charge (part_at parts i)) (run i).charges
      ∙ amount_there (λ (r : Charge). r.0) (λ r. r.1) (part_at parts i).links (alone.links i) (run i).charges (charges_below i l) j

  part_gains : (j i : ℕ) → i < length parts → from_link (rows_of parts run i) j + into_charge (charges_of parts run i) j ≤ cond (member (part_at parts i).links j) (gain_of P j) 0
  part_gains j i l =
      let here : Bool = member (part_at parts i).links j in
      let place : ℕ = place_of (part_at parts i).links j in
      elim (cases_Bool here) [
        | inl inside ↦
            let gain : gain_of (part_problem P (part_at parts i)) place ≡ gain_of P j = ap (λ (x : LinkRow). x.gain) (link_there j i inside) in
            omega (arith, rows_there j i l ∙ cond-true here _ 0 inside, charges_there j i l ∙ cond-true here _ 0 inside, (solved i l).flow.gains place, gain, cond-true here (gain_of P j) 0 inside)
        | inr outside ↦ omega (arith, rows_there j i l ∙ cond-false here _ 0 outside, charges_there j i l ∙ cond-false here _ 0 outside)
      ]

  part_charged : (j i : ℕ) → i < length parts → into_charge (charges_of parts run i) j ≤ cond (member (part_at parts i).links j) (charge_of P j) 0
  part_charged j i l =
      let here : Bool = member (part_at parts i).links j in
      let place : ℕ = place_of (part_at parts i).links j in
      elim (cases_Bool here) [
        | inl inside ↦
            let charge : charge_of (part_problem P (part_at parts i)) place ≡ charge_of P j = ap (λ (x : LinkRow). x.charge) (link_there j i inside) in
            omega (arith, charges_there j i l ∙ cond-true here _ 0 inside, (solved i l).flow.charged place, charge, cond-true here (charge_of P j) 0 inside)
        | inr outside ↦ omega (arith, charges_there j i l ∙ cond-false here _ 0 outside)
      ]

  part_charged_once : (j i : ℕ) → i < length parts → count (λ (r : Charge). r.0 == j) (charges_of parts run i) ≤ cond (member (part_at parts i).links j) 1 0
  part_charged_once j i l =
      let xs : List ℕ = (part_at parts i).links in
      let here : Bool = member xs j in
      let place : ℕ = place_of xs j in
      let there : count (λ (r : Charge). r.0 == j) (charges_of parts run i) ≡ cond here (count (λ (r : Charge). r.0 == place) (run i).charges) 0 =
      sum_map (λ (r : Charge). cond (r.0 == j) 1 0) (whole_charge (part_at parts i)) (run i).charges
      ∙ amount_there (λ (r : Charge). r.0) (λ r. 1) xs (alone.links i) (run i).charges (charges_below i l) j in
      elim (cases_Bool here) [
        | inl inside ↦
            omega (arith, there ∙ cond-true here _ 0 inside, one_passes IsChargeBefore (λ (r : Charge). r.0 == place) (charges_apart place) (run i).charges (solved i l).paid_ordered, cond-true {A = ℕ} here 1 0 inside)
        | inr outside ↦ omega (arith, there ∙ cond-false here _ 0 outside)
      ]

  part_costs : (p i : ℕ) → i < length parts → into_point (rows_of parts run i) p ≤ cond (member (part_at parts i).points p) (cost_of P p) 0
  part_costs p i l =
      let xs : List ℕ = (part_at parts i).points in
      let place : ℕ = place_of xs p in
      let moved : into_point (rows_of parts run i) p ≡ amount_at (λ (r : Row). num xs r.1) (λ r. r.2) (run i).rows p = sum_map (λ (r : Row). cond (r.1 == p) r.2 0) (whole_row (part_at parts i)) (run i).rows in
      let there = amount_there (λ (r : Row). r.1) (λ r. r.2) xs (alone.points i) (run i).rows (points_below i l) p in
      let bound : into_point (run i).rows place ≤ cost_of (part_problem P (part_at parts i)) place = (solved i l).flow.costs place in
      elim (cases_Bool (member xs p)) [
        | inl inside ↦
            let at = (alone.points i).place p inside in
            let cost : cost_of (part_problem P (part_at parts i)) place ≡ cost_of P p = get_or-map (cost_of P) xs place 0 0 at.0 ∙ ap (cost_of P) at.1 in
            omega (arith, moved, there ∙ cond-true (member xs p) _ 0 inside, bound, cost, cond-true (member xs p) (cost_of P p) 0 inside)
        | inr outside ↦ omega (arith, moved, there ∙ cond-false (member xs p) _ 0 outside)
      ]

  part_once : (j p i : ℕ) → i < length parts → count (is_at j p) (rows_of parts run i) ≤ cond (member (part_at parts i).links j) 1 0
  part_once j p i l =
      let xs : List ℕ = (part_at parts i).links in
      elim (cases_Bool (member xs j)) [
        | inl inside ↦
            omega (
              arith,
              one_passes IsBefore (is_at j p) (rows_apart j p) (rows_of parts run i) (whole_ordered (part_at parts i) (alone.part i).links (alone.part i).points (run i).rows (links_below i l) (points_below i l) (solved i l).ordered),
              cond-true {A = ℕ} (member xs j) 1 0 inside,
            )
        | inr outside ↦
            omega (
              arith,
              none_pass (is_at j p) (rows_of parts run i)
                  (All-map (λ (r : Row). is_at j p r ≡ true → ⊥) (whole_row (part_at parts i)) (run i).rows
                  (λ k d m e. true≢false (sym (and_parts _ _ e).0 ∙ other_place xs (alone.links i) (get_or (run i).rows k d).0 j (links_below i l k d m) outside))),
            )
      ]

  links_apart : (j i k : ℕ) → i < length parts → k < length parts → member (part_at parts i).links j ≡ true → member (part_at parts k).links j ≡ true → i ≡ k
  links_apart j i k l m e f = are.apart i k (link j) (link j) e f here

  points_apart : (p i k : ℕ) → i < length parts → k < length parts → member (part_at parts i).points p ≡ true → member (part_at parts k).points p ≡ true → i ≡ k
  points_apart p i k l m e f = are.apart i k (point p) (point p) e f here

  abbrev pub all_rows : List Row
  all_rows = joined (rows_of parts run) (length parts)

  pub all_needed : All (λ r. needs_point P r.0 r.1 ≡ true) all_rows
  all_needed = joined_all (λ (r : Row). needs_point P r.0 r.1 ≡ true) (rows_of parts run) (length parts) part_needed

  pub all_positive : All (λ r. 0 < r.2) all_rows
  all_positive = joined_all (λ (r : Row). 0 < r.2) (rows_of parts run) (length parts) part_positive

  abbrev pub all_charges : List Charge
  all_charges = joined (charges_of parts run) (length parts)

  pub all_listed : All (λ r. r.0 < length P.links) all_charges
  all_listed = joined_all (λ (r : Charge). r.0 < length P.links) (charges_of parts run) (length parts) part_listed

  pub all_paid : All (λ r. 0 < r.1) all_charges
  all_paid = joined_all (λ (r : Charge). 0 < r.1) (charges_of parts run) (length parts) part_paid

  pub all_gains : (j : ℕ) → from_link all_rows j + into_charge all_charges j ≤ gain_of P j
  all_gains j =
      omega (
        arith,
        joined_sum (λ (r : Row). cond (r.0 == j) r.2 0) (rows_of parts run) (length parts),
        joined_sum (λ (r : Charge). cond (r.0 == j) r.1 0) (charges_of parts run) (length parts),
        sum_below-add (length parts) (λ i. from_link (rows_of parts run i) j) (λ i. into_charge (charges_of parts run i) j),
        one_within (length parts) (λ i. member (part_at parts i).links j) (λ i. from_link (rows_of parts run i) j + into_charge (charges_of parts run i) j) (gain_of P j) (links_apart j) (part_gains j),
      )

  pub all_charged : (j : ℕ) → into_charge all_charges j ≤ charge_of P j
  all_charged j =
      omega (
        arith,
        joined_sum (λ (r : Charge). cond (r.0 == j) r.1 0) (charges_of parts run) (length parts),
        one_within (length parts) (λ i. member (part_at parts i).links j) (λ i. into_charge (charges_of parts run i) j) (charge_of P j) (links_apart j) (part_charged j),
      )

  pub all_charged_once : (j : ℕ) → count (λ (r : Charge). r.0 == j) all_charges ≤ 1
  all_charged_once j =
      omega (
        arith,
        joined_sum (λ (r : Charge). cond (r.0 == j) 1 0) (charges_of parts run) (length parts),
        one_within (length parts) (λ i. member (part_at parts i).links j) (λ i. count (λ (r : Charge). r.0 == j) (charges_of parts run i)) 1 (links_apart j) (part_charged_once j),
      )

  pub all_costs : (p : ℕ) → into_point all_rows p ≤ cost_of P p
  all_costs p =
      omega (
        arith,
        joined_sum (λ (r : Row). cond (r.1 == p) r.2 0) (rows_of parts run) (length parts),
        one_within (length parts) (λ i. member (part_at parts i).points p) (λ i. into_point (rows_of parts run i) p) (cost_of P p) (points_apart p) (part_costs p),
      )

  pub all_once : (j p : ℕ) → count (is_at j p) all_rows ≤ 1
  all_once j p =
      omega (
        arith,
        joined_sum (λ r. cond (is_at j p r) 1 0) (rows_of parts run) (length parts),
        one_within (length parts) (λ i. member (part_at parts i).links j) (λ i. count (is_at j p) (rows_of parts run i)) 1 (links_apart j) (part_once j p),
      )
