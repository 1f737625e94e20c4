use Rattle.std.proofs.Common.{◌≡◌, ◌+◌, ◌<◌, ℕ, zero, suc, List, [], ◌∷◌, length, arith, refl, sym, ◌∙◌, ap, subst, cond, Bool, true, false, inl, inr}
use Rattle.std.specs.Prelude.{map, nat_lt, ◌==◌, All, AllPairs, filter, pos, ◌+ℤ◌}
use Rattle.std.specs.List.{sum_by}
use Rattle.std.proofs.Math.Path.{fun_ext}
use Rattle.std.proofs.lemmas.Bool.{cases_lt, cases_Bool, lt-ltb, ltb-true, ltb-false}
use Rattle.std.proofs.lemmas.List.Kept.{AllPairs-cons, AllPairs-filter}
use Rattle.std.proofs.lemmas.List.Sums.{sum_by-cons}
use Rattle.std.proofs.lemmas.List.Elements.{All-cons, All-filter, All-head, All-map, All-tail}
use Rattle.std.proofs.lemmas.List.{get_or_past}
use Rattle.mh_network.specs.Needs.{AreNeeds}
use Rattle.mh_network.specs.Problems.{ProblemData, no_link, IsProblem, needs_point, gain_of, cost_of, sum_of_gains}
use Rattle.mh_network.specs.Selection.{IsBefore, Row, Charge, IsFlow, from_link, into_point, value_of, worth, member, IsLeast}
use Rattle.mh_network.specs.declared.link_row.LinkRow.{LinkRow}
use Rattle.mh_flow.specs.declared.need_row.NeedRow.{NeedRow}
use Rattle.mh_flow.specs.Carried.{row_at, number_at, out_of_link}
use Rattle.mh_flow.specs.Carried as flow
use Rattle.mh_flow.specs.Charged.{paid_of, paid_charges}
use Rattle.mh_flow.specs.Run.{IsRun, IsOrdered, needs_below, positive_rows, row_of, is_reached}
use Rattle.mh_flow.proofs.Paying.{paid_at, paid_in_charge, paid_in_gain, paid_listed}
use Rattle.mh_flow.proofs.Runs.{run_start}

-- sums over the rows that carry something
pub positive-sum : (f : Row → ℕ) (rows : List NeedRow) → ((r : NeedRow) → r.amount ≡ 0 → f (row_of r) ≡ 0) → sum_by f (positive_rows rows) ≡ sum_by (λ r. f (row_of r)) rows
positive-sum f [] h = refl
positive-sum f (r ∷ rs) h =
    elim (cases_Bool (nat_lt 0 r.amount)) [
      | inl some ↦
          rw some
          (omega (arith, sum_by-cons f (row_of r) (positive_rows rs), sum_by-cons (λ (x : NeedRow). f (row_of x)) r rs, positive-sum f rs h))
      | inr none ↦
          let idle : r.amount ≡ 0 = omega (arith, ltb-false 0 r.amount none) in
          rw none
          (omega (arith, h r idle, sum_by-cons (λ (x : NeedRow). f (row_of x)) r rs, positive-sum f rs h))
    ]

cond-zero : (b : Bool) (a : ℕ) → a ≡ 0 → cond b a 0 ≡ 0
cond-zero true a e = e
cond-zero false a e = refl

pub positive_out : (rows : List NeedRow) (j : ℕ) → from_link (positive_rows rows) j ≡ out_of_link rows j
positive_out rows j = positive-sum (λ (r : Row). cond (r.0 == j) r.2 0) rows (λ r e. cond-zero _ _ e)

pub positive_into : (rows : List NeedRow) (p : ℕ) → into_point (positive_rows rows) p ≡ flow.into_point rows p
positive_into rows p = positive-sum (λ (r : Row). cond (r.1 == p) r.2 0) rows (λ r e. cond-zero _ _ e)

-- what holds of the rows that carry something holds of each that does
pub positive_at : (G : Row → Type 0) (rows : List NeedRow) → All G (positive_rows rows) → (k : ℕ) → k < length rows → 0 < (row_at rows k).amount → G (row_of (row_at rows k))
positive_at G [] h k l some = absurd (omega (arith, l))
positive_at G (r ∷ rs) h zero l some = All-head G (row_of r) (positive_rows rs) (rw (lt-ltb 0 r.amount some) at h)
positive_at G (r ∷ rs) h (suc k) l some =
    elim (cases_Bool (nat_lt 0 r.amount)) [
      | inl carries ↦ positive_at G rs (All-tail G (row_of r) (positive_rows rs) (rw carries at h)) k (omega arith) some
      | inr idle ↦ positive_at G rs (rw idle at h) k (omega arith) some
    ]

pub positive_flow : (P : ProblemData) (rows : List NeedRow) (left cost_left : List ℕ) → IsRun P rows left cost_left → IsFlow P (positive_rows rows) (paid_charges P)
positive_flow P rows left cost_left run = record {
  needed = All-map (λ (r : Row). needs_point P r.0 r.1 ≡ true) row_of (filter (λ (r : NeedRow). nat_lt 0 r.amount) rows)
      (All-filter (λ (r : NeedRow). nat_lt 0 r.amount) (λ (r : NeedRow). needs_point P r.link r.point ≡ true) rows run.needed);
  listed = paid_listed P;
  gains = λ j. omega (arith, run.gains j, positive_out rows j, paid_at P j);
  costs = λ p. omega (arith, run.costs p, positive_into rows p);
  charged = λ j. omega (arith, paid_at P j, paid_in_charge P j);
}

pairs-map : (rows : List NeedRow) → IsOrdered rows → AllPairs IsBefore (map row_of rows)
pairs-map [] h = λ i j d l m. absurd (omega arith)
pairs-map (r ∷ rs) h =
    AllPairs-cons IsBefore (row_of r) (map row_of rs)
    (All-map (IsBefore (row_of r)) row_of rs (λ k d l. h zero (suc k) d (omega arith) (omega arith)))
    (pairs-map rs (λ i j d l m. h (suc i) (suc j) d (omega arith) (omega arith)))

pub positive_ordered : (rows : List NeedRow) → IsOrdered rows → AllPairs IsBefore (positive_rows rows)
positive_ordered rows h =
    pairs-map (filter (λ (r : NeedRow). nat_lt 0 r.amount) rows)
    (AllPairs-filter (λ r s. IsBefore (row_of r) (row_of s)) (λ (r : NeedRow). nat_lt 0 r.amount) rows h)

pub positive_some : (rows : List NeedRow) → All (λ (r : Row). 0 < r.2) (positive_rows rows)
positive_some [] = λ k d l. absurd (omega arith)
positive_some (r ∷ rs) =
    elim (cases_Bool (nat_lt 0 r.amount)) [
      | inl some ↦ rw some (All-cons (λ (x : Row). 0 < x.2) (row_of r) (positive_rows rs) (ltb-true 0 r.amount some) (positive_some rs))
      | inr none ↦ rw none (positive_some rs)
    ]

pub run_new : (P : ProblemData) (left cost_left : List ℕ) → AreNeeds P → IsProblem P → length left ≡ length P.links → length cost_left ≡ length P.costs →
    ((j : ℕ) → j < length left → number_at left j + paid_of P j ≡ gain_of P j) → ((p : ℕ) → p < length cost_left → number_at cost_left p ≡ cost_of P p) → IsRun P (needs_below P (length P.links)) left cost_left
run_new P left cost_left needs problem links points gains costs =
    run_start P left cost_left needs problem links points
    (λ j. elim (cases_lt j (length left)) [
      | inl m ↦ gains j m
      | inr m ↦
          let none : gain_of P j ≡ 0 = ap (λ (l : LinkRow). l.gain) (get_or_past P.links j no_link (omega (arith, m, links))) in
          omega (arith, get_or_past left j 0 m, none, paid_in_gain P j)
    ])
    (λ p. elim (cases_lt p (length cost_left)) [
      | inl m ↦ costs p m
      | inr m ↦ get_or_past cost_left p 0 m ∙ sym (get_or_past P.costs p 0 (omega (arith, m, points)))
    ])

same_set : (xs links : List ℕ) → ((j : ℕ) → member xs j ≡ is_reached links j) → member xs ≡ is_reached links
same_set xs links h = fun_ext h

pub answered_equal : (P : ProblemData) (rows : List NeedRow) (charges : List Charge) (links xs : List ℕ) → ((j : ℕ) → member xs j ≡ is_reached links j) →
    worth P (is_reached links) +ℤ pos (value_of (positive_rows rows) charges) ≡ pos (sum_of_gains P) → worth P (member xs) +ℤ pos (value_of (positive_rows rows) charges) ≡ pos (sum_of_gains P)
answered_equal P rows charges links xs h equal = subst (λ (S : ℕ → Bool). worth P S +ℤ pos (value_of (positive_rows rows) charges) ≡ pos (sum_of_gains P)) (sym (same_set xs links h)) equal

pub answered_least : (P : ProblemData) (links xs : List ℕ) → ((j : ℕ) → member xs j ≡ is_reached links j) → IsLeast P (is_reached links) → IsLeast P (member xs)
answered_least P links xs h least = subst (λ (S : ℕ → Bool). IsLeast P S) (sym (same_set xs links h)) least
