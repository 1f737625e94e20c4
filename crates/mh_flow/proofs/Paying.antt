-- What links pay of their charges.
use Rattle.std.proofs.Common.{◌≡◌, ◌<◌, ◌≤◌, ◌+◌, ℕ, zero, suc, List, [], ◌∷◌, length, arith, refl, ap, cond, Bool, true, false, inl, inr}
use Rattle.std.specs.Prelude.{nat_lt, ◌==◌, All, AllPairs}
use Rattle.std.specs.List.{slice_index_or}
use Rattle.std.proofs.Math.Nat.{le-min, min-eq_left, min-le_left, min-le_right}
use Rattle.std.proofs.lemmas.Bool.{cases_Bool, cases_lt, cond-true, cond-false, eq-eqb, ne_eqb, ltb-true, ltb-false}
use Rattle.std.proofs.lemmas.List.{get_or_past}
use Rattle.std.proofs.lemmas.List.Elements.{All-append, All-cons}
use Rattle.std.proofs.lemmas.List.Sums.{sum_by-append, sum_by-cons}
use Rattle.mh_network.specs.declared.link_row.LinkRow.{LinkRow}
use Rattle.mh_network.specs.Problems.{ProblemData, no_link, gain_of, charge_of}
use Rattle.mh_network.specs.Selection.{Charge, IsChargeBefore, into_charge}
use Rattle.mh_flow.specs.declared.need_row.NeedRow.{NeedRow}
use Rattle.mh_flow.specs.Carried.{number_at, out_of_link}
use Rattle.mh_flow.specs.Charged.{paid_of, paid_below, paid_charges}
use Rattle.mh_flow.specs.Levels.{far}
use Rattle.mh_flow.specs.Run.{IsRun, IsLayered}
use Rattle.mh_flow.proofs.Pushing.{row-le-amount_at}
use Rattle.mh_flow.proofs.Runs.{pairs-append}

pub paid_in_gain : (P : ProblemData) (j : ℕ) → paid_of P j ≤ gain_of P j
paid_in_gain P j = min-le_left (gain_of P j) (charge_of P j)

pub paid_in_charge : (P : ProblemData) (j : ℕ) → paid_of P j ≤ charge_of P j
paid_in_charge P j = min-le_right (gain_of P j) (charge_of P j)

-- a link that has gain left pays all of its charge
pub paid_whole : (P : ProblemData) (j : ℕ) → paid_of P j < gain_of P j → paid_of P j ≡ charge_of P j
paid_whole P j l =
    elim (cases_lt (charge_of P j) (gain_of P j)) [
      | inl m ↦
          let whole : charge_of P j ≤ paid_of P j = le-min (omega (arith, m)) (omega arith) in
          omega (arith, whole, paid_in_charge P j)
      | inr m ↦
          let all : paid_of P j ≡ gain_of P j = min-eq_left m in
          absurd (omega (arith, l, all))
    ]

pub no_charge : (P : ProblemData) (j : ℕ) → length P.links ≤ j → charge_of P j ≡ 0
no_charge P j past = ap (λ (l : LinkRow). l.charge) (get_or_past P.links j no_link past)

abbrev one_paid : ProblemData → ℕ → List Charge
one_paid P n = cond (nat_lt 0 (paid_of P n)) ((n, paid_of P n) ∷ []) []

cond-none : (b : Bool) (a : ℕ) → a ≡ 0 → cond b a 0 ≡ 0
cond-none true a e = e
cond-none false a e = refl

one_at : (P : ProblemData) (n j : ℕ) → into_charge (one_paid P n) j ≡ cond (n == j) (paid_of P n) 0
one_at P n j =
    elim (cases_Bool (nat_lt 0 (paid_of P n))) [
      | inl some ↦ rw some (omega (arith, sum_by-cons (λ (r : Charge). cond (r.0 == j) r.1 0) (n, paid_of P n) []))
      | inr none ↦
          let idle : cond (n == j) (paid_of P n) 0 ≡ 0 = cond-none (n == j) (paid_of P n) (omega (arith, ltb-false 0 (paid_of P n) none)) in
          rw none (omega (arith, idle))
    ]

more_at : (P : ProblemData) (n j : ℕ) → into_charge (paid_below P (suc n)) j ≡ into_charge (paid_below P n) j + cond (n == j) (paid_of P n) 0
more_at P n j = omega (arith, sum_by-append (λ (r : Charge). cond (r.0 == j) r.1 0) (paid_below P n) (one_paid P n), one_at P n j)

past_at : (P : ProblemData) (n j : ℕ) → n ≤ j → into_charge (paid_below P n) j ≡ 0
past_at P zero j l = refl
past_at P (suc n) j l =
    let other : cond (n == j) (paid_of P n) 0 ≡ 0 = cond-false (n == j) (paid_of P n) 0 (ne_eqb n j (λ e. omega (arith, e, l))) in
    omega (arith, more_at P n j, past_at P n j (omega (arith, l)), other)

below_at : (P : ProblemData) (n j : ℕ) → j < n → into_charge (paid_below P n) j ≡ paid_of P j
below_at P zero j l = absurd (omega (arith, l))
below_at P (suc n) j l =
    elim (cases_lt j n) [
      | inl m ↦
          let other : cond (n == j) (paid_of P n) 0 ≡ 0 = cond-false (n == j) (paid_of P n) 0 (ne_eqb n j (λ e. omega (arith, e, m))) in
          omega (arith, more_at P n j, below_at P n j m, other)
      | inr m ↦
          let same : n ≡ j = omega (arith, l, m) in
          let here : cond (n == j) (paid_of P n) 0 ≡ paid_of P n = cond-true (n == j) (paid_of P n) 0 (eq-eqb n j same) in
          omega (arith, more_at P n j, past_at P n j m, here, ap (paid_of P) same)
    ]

-- what the rows say of a link is what it pays
pub paid_at : (P : ProblemData) (j : ℕ) → into_charge (paid_charges P) j ≡ paid_of P j
paid_at P j =
    elim (cases_lt j (length P.links)) [
      | inl m ↦ below_at P (length P.links) j m
      | inr m ↦ omega (arith, past_at P (length P.links) j m, paid_in_charge P j, no_charge P j m)
    ]

one_all : (Good : Charge → Type 0) (P : ProblemData) (n : ℕ) → (0 < paid_of P n → Good (n, paid_of P n)) → All Good (one_paid P n)
one_all Good P n good =
    elim (cases_Bool (nat_lt 0 (paid_of P n))) [
      | inl some ↦ rw some (All-cons Good (n, paid_of P n) [] (good (ltb-true 0 (paid_of P n) some)) (λ k d l. absurd (omega (arith, l))))
      | inr none ↦ rw none (λ k d l. absurd (omega (arith, l)))
    ]

one_ordered : (P : ProblemData) (n : ℕ) → AllPairs IsChargeBefore (one_paid P n)
one_ordered P n =
    elim (cases_Bool (nat_lt 0 (paid_of P n))) [
      | inl some ↦ rw some (λ i j d l m. absurd (omega (arith, l, m)))
      | inr none ↦ rw none (λ i j d l m. absurd (omega (arith, m)))
    ]

below_listed : (P : ProblemData) (n : ℕ) → All (λ r. r.0 < n) (paid_below P n)
below_listed P zero = λ k d l. absurd (omega (arith, l))
below_listed P (suc n) =
    All-append (λ r. r.0 < suc n) (paid_below P n) (one_paid P n)
    (λ k d l. let low = below_listed P n k d l in omega (arith, low))
    (one_all (λ r. r.0 < suc n) P n (λ some. omega arith))

below_positive : (P : ProblemData) (n : ℕ) → All (λ r. 0 < r.1) (paid_below P n)
below_positive P zero = λ k d l. absurd (omega (arith, l))
below_positive P (suc n) = All-append (λ r. 0 < r.1) (paid_below P n) (one_paid P n) (below_positive P n) (one_all (λ r. 0 < r.1) P n (λ some. some))

below_ordered : (P : ProblemData) (n : ℕ) → AllPairs IsChargeBefore (paid_below P n)
below_ordered P zero = λ i j d l m. absurd (omega (arith, m))
below_ordered P (suc n) =
    pairs-append IsChargeBefore (paid_below P n) (one_paid P n) (below_ordered P n) (one_ordered P n)
    (λ k d l. one_all (IsChargeBefore (slice_index_or (paid_below P n) k d)) P n (λ some. below_listed P n k d l))

pub paid_listed : (P : ProblemData) → All (λ r. r.0 < length P.links) (paid_charges P)
paid_listed P = below_listed P (length P.links)

pub paid_positive : (P : ProblemData) → All (λ r. 0 < r.1) (paid_charges P)
paid_positive P = below_positive P (length P.links)

pub paid_ordered : (P : ProblemData) → AllPairs IsChargeBefore (paid_charges P)
paid_ordered P = below_ordered P (length P.links)

-- a link that is reached has gain beside what it pays
pub reached_gains : (P : ProblemData) (rows : List NeedRow) (left cost_left links points : List ℕ) → IsRun P rows left cost_left → IsLayered rows left links points →
    (j : ℕ) → j < length links → number_at links j < far → paid_of P j < gain_of P j
reached_gains P rows left cost_left links points run layered j l f =
    elim (layered.levels.supported.link_rows j l f) [
      | inl source ↦ omega (arith, source.1, run.gains j)
      | inr row ↦ omega (arith, row.3, row-le-amount_at (λ r. r.link) rows row.0 row.1, ap (out_of_link rows) row.2, run.gains j)
    ]
