-- Where the fault of a problem's links and costs stands: at the first link that fails its test.
use Rattle.std.proofs.Common.{◌≡◌, ◌≤◌, ◌<◌, ◌+◌, ◌⊎◌, ℕ, zero, suc, Bool, true, false, not, cond, List, length, slice_index_or, inl, inr, refl, ap, sym, subst, ◌∙◌, arith, Some, None, Result, Ok, Err, IfErr, nat_le, nat_lt, Decides}
use Rattle.std.specs.List.{All, position_or_len, range_with_len}
use Rattle.std.specs.List.Sorted.{IsStrictlyIncreasing}
use Rattle.std.proofs.lemmas.Bool.{cases_lt}
use Rattle.std.proofs.lemmas.Bool.Decides.{nat_tests}
use Rattle.std.proofs.lemmas.List.Sums.{position_or_len_is}
use Rattle.mh_base.specs.Listed.{tests_of_each}
use Rattle.mh_base.specs.Tests.{Tests, Passes, Refuses, no_more, nothing, test, only}
use Rattle.mh_network.specs.declared.link_row.LinkRow.{LinkRow}
use Rattle.mh_network.specs.declared.fault.ProblemFault.{ProblemFault}
use Rattle.mh_network.specs.declared.fault.ProblemFault.TheVariants.{NoMemory, GainTooLarge, CostTooLarge, NeedOutOfRange, NeedsNotAscending, TooManyLinks, TooManyPoints, TooManyNeeds}
use Rattle.mh_network.specs.declared.place.ProblemMisfit.{ProblemMisfit}
use Rattle.mh_network.specs.declared.place.ProblemPlace.{ProblemPlace}
use Rattle.mh_network.specs.declared.place.ProblemPlace.TheVariants.{Whole, Links, Points, Needs}
use Rattle.mh_base.specs.Limits.{most_needs}
use Rattle.mh_network.specs.Limits.{greatest_sum}
use Rattle.mh_network.specs.Places.{misfit, out_of_memory, placed_tests, tests_of_needs}
use Rattle.mh_network.specs.Problems.{ProblemData, no_link, problem_of, problem_tests, sum_of_charges, sum_of_costs, sum_of_gains}
use Rattle.mh_site.specs.Places.{unfit}
use Rattle.mh_json.specs.Misfits.{keys_in_problem}
use Rattle.mh_json.specs.Problems.{ascend, needs_known, place_in}
use Rattle.mh_json.proofs.ProblemTests.{ascends, at_most, knows}

module _ (passes : LinkRow → Bool) (Fact : LinkRow → Type 0) (each : (r : LinkRow) → Decides (passes r) (Fact r)) (links : List LinkRow) where
  abbrev at : ℕ → LinkRow
  at j = slice_index_or links j no_link

  fails_at : (j : ℕ) → (Fact (at j) → ⊥) → (b : Bool) → passes (at j) ≡ b → not b ≡ true
  fails_at j not_here true is = absurd (not_here ((each (at j)).0 is))
  fails_at j not_here false is = refl

  -- the first that fails is found
  first_is : (j : ℕ) → j < length links → ((k : ℕ) → k < j → passes (at k) ≡ true) → (Fact (at j) → ⊥) → unfit passes links ≡ Some j
  first_is j lt before not_here =
      let first : position_or_len (λ r. not (passes r)) links ≡ j =
      position_or_len_is (λ r. not (passes r)) links j no_link (omega (arith, lt)) (λ k below. ap not (before k below)) (λ inside. fails_at j not_here (passes (at j)) refl) in
      let inside : nat_lt j (length links) ≡ true = grind (arith, nat_tests) in
      ap (λ i. cond (nat_lt i (length links)) (Some i) None) first ∙ ap (λ b. cond b (Some j) None) inside

  module _ (fault : ProblemFault) (later : Tests ProblemMisfit) (m : ProblemMisfit) where
    abbrev tests : ℕ → ℕ → Tests ProblemMisfit
    tests a n = tests_of_each (λ j. test (Fact (at j)) (only (misfit fault (Needs j)))) (range_with_len a n) later

    abbrev IsTold : Type 0
    IsTold = (j : ℕ) × (unfit passes links ≡ Some j) × (m ≡ misfit fault (Needs j))

    walk : (a n : ℕ) → a + n ≡ length links → ((k : ℕ) → k < a → passes (at k) ≡ true) → Refuses (tests a n) m → IsTold ⊎ Refuses later m
    walk a zero end before h = inr h
    walk a (suc n) end before (inl here) = inl (a, first_is a (omega (arith, end)) before here.0, here.1)
    walk a (suc n) end before (inr there) =
        walk (a + 1) n (omega (arith, end))
        (λ k below. elim (cases_lt k a) [
          | inl earlier ↦ before k earlier
          | inr last ↦ let e : a ≡ k = omega (arith, below, last) in subst (λ i. passes (at i) ≡ true) e ((each (at a)).1 there.0)
        ]) there.1

    -- it is of the first link that fails, or comes later
    pub first_or_later : Refuses (tests_of_needs Fact fault links later) m → IsTold ⊎ Refuses later m
    first_or_later h = walk 0 (length links) (omega arith) (λ k below. absurd (omega (arith, below))) h

module _ (links : List LinkRow) (costs : List ℕ) (m : ProblemMisfit) where
  abbrev Stands : Type 0
  Stands = keys_in_problem m.place ≡ place_in links costs m.fault

  stands_at : (fault : ProblemFault) (place : ProblemPlace) → m ≡ misfit fault place → keys_in_problem place ≡ place_in links costs fault → Stands
  stands_at fault place is same = subst (λ (m : ProblemMisfit). keys_in_problem m.place ≡ place_in links costs m.fault) (sym is) same

  abbrev sum_tests : Tests ProblemMisfit
  sum_tests =
      test (sum_of_gains (problem_of links costs) ≤ greatest_sum) (only (misfit GainTooLarge Links))
      (test (sum_of_costs (problem_of links costs) + sum_of_charges (problem_of links costs) ≤ greatest_sum) (only (misfit CostTooLarge Whole)) (no_more nothing))

  abbrev order_tests : Tests ProblemMisfit
  order_tests = tests_of_needs (λ r. IsStrictlyIncreasing r.needs) NeedsNotAscending links sum_tests

  abbrev range_tests : Tests ProblemMisfit
  range_tests = tests_of_needs (λ r. All (λ p. p < length costs) r.needs) NeedOutOfRange links order_tests

  sum_stands : Refuses sum_tests m → Stands
  sum_stands (inl gains) = stands_at GainTooLarge Links gains.1 refl
  sum_stands (inr (fit, inl large)) = stands_at CostTooLarge Whole large.1 refl
  sum_stands (inr (fit, inr none)) = absurd none.1

  order_stands : Refuses order_tests m → Stands
  order_stands h =
      elim (first_or_later (λ r. ascend r.needs) (λ r. IsStrictlyIncreasing r.needs) (λ r. ascends r.needs) links NeedsNotAscending sum_tests m h) [
        | inl told ↦ stands_at NeedsNotAscending (Needs told.0) told.2 (rw told.1 refl)
        | inr later ↦ sum_stands later
      ]

  range_stands : Refuses range_tests m → Stands
  range_stands h =
      elim (first_or_later (needs_known (length costs)) (λ r. All (λ p. p < length costs) r.needs) (knows (length costs)) links NeedOutOfRange order_tests m h) [
        | inl told ↦ stands_at NeedOutOfRange (Needs told.0) told.2 (rw told.1 refl)
        | inr later ↦ order_stands later
      ]

  -- each fault of a problem stands where its place is said to be
  pub misfit_stands : Refuses (placed_tests links costs) m → Stands
  misfit_stands (inl many_links) = stands_at TooManyLinks Links many_links.1 refl
  misfit_stands (inr (few_links, inl many_points)) = stands_at TooManyPoints Points many_points.1 refl
  misfit_stands (inr (few_links, inr (few_points, h))) =
      elim (first_or_later (λ r. nat_le (length r.needs) most_needs) (λ r. length r.needs ≤ most_needs) (λ r. at_most (length r.needs) most_needs) links TooManyNeeds range_tests m h) [
        | inl told ↦ stands_at TooManyNeeds (Needs told.0) told.2 (rw told.1 refl)
        | inr later ↦ range_stands later
      ]

-- and so does each that `Problem::placed` gives of these links and costs
pub misfits_stand : (made : Result ProblemData ProblemMisfit) (given links : List LinkRow) (paid costs : List ℕ) → given ≡ links → paid ≡ costs
    → IfErr made (λ m. Refuses (placed_tests given paid) m ⊎ (Passes (problem_tests given paid) × (m ≡ out_of_memory)))
    → IfErr made (λ m. (m.fault ≡ NoMemory) ⊎ (keys_in_problem m.place ≡ place_in links costs m.fault))
misfits_stand (Ok p) given links paid costs same alike h = tt
misfits_stand (Err m) given links paid costs same alike (inl refuses) =
    inr (misfit_stands links costs m (subst (λ xs. Refuses (placed_tests xs costs) m) same (subst (λ ns. Refuses (placed_tests given ns) m) alike refuses)))
misfits_stand (Err m) given links paid costs same alike (inr memory) = inl (ap (λ (m : ProblemMisfit). m.fault) memory.1)
