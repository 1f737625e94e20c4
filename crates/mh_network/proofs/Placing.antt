-- The links in turn: the first that fails a test is reported.
use Rattle.std.proofs.Common.{◌≡◌, inl, inr, Bool, false, Decides, leb, sum, ℕ, zero, suc, ◌+◌, ◌≤◌, ◌<◌, ◌⊎◌, List, length, slice_index_or, refl, ap, sym, subst, ◌∙◌, arith, Option, Some, None, Result, Ok, Err, MatchResult}
use Rattle.std.specs.List.{All, AllWithin, HoldsAt, range_with_len, sum_by}
use Rattle.std.specs.List.Sorted.{IsStrictlyIncreasing}
use Rattle.std.specs.Option.{MatchOption}
use Rattle.std.proofs.lemmas.Bool.{cases_lt, leb-true, le-leb, true≢false}
use Rattle.std.proofs.lemmas.List.{get_or_default}
use Rattle.std.proofs.lemmas.List.Elements.{All-from_all_within}
use Rattle.mh_base.specs.Listed.{tests_of_each}
use Rattle.mh_base.specs.Tests.{Tests, Refuses, no_more, nothing, test, only}
use Rattle.mh_network.specs.declared.link_row.LinkRow.{LinkRow}
use Rattle.mh_network.specs.declared.fault.ProblemFault.{ProblemFault}
use Rattle.mh_network.specs.declared.place.ProblemMisfit.{ProblemMisfit}
use Rattle.mh_network.specs.declared.fault.ProblemFault.TheVariants.{GainTooLarge, CostTooLarge, NeedOutOfRange, NeedsNotAscending, TooManyLinks, TooManyPoints, TooManyNeeds}
use Rattle.mh_network.specs.declared.place.ProblemPlace.TheVariants.{Whole, Links, Points, Needs}
use Rattle.mh_network.specs.Limits.{greatest_sum}
use Rattle.mh_network.specs.Laws.Kept.{kept_gains, kept_costs, kept_charges}
use Rattle.mh_network.specs.Problems.{kept_gain, no_link, problem_of, sum_of_gains, sum_of_costs, sum_of_charges, limited_tests}
use Rattle.mh_network.specs.Places.{IsFirstNot, misfit, tests_of_needs, placed_large_tests, placed_limited}

-- what a search for the first that fails found
pub first_not : (Fact : LinkRow → Type 0) (rows : List LinkRow) (found : Option ℕ)
    → MatchOption found (AllWithin Fact rows 0 (length rows)) (λ j. (j < length rows) × HoldsAt (λ r. Fact r → ⊥) rows j × AllWithin Fact rows 0 j)
    → IsFirstNot Fact rows found
first_not Fact rows None all = All-from_all_within Fact rows all
first_not Fact rows (Some j) h = h

-- ---- by number
module _ {E : Type 0} (Fact : ℕ → Type 0) (told : ℕ → E) (later : Tests E) where
  abbrev tests : ℕ → ℕ → Tests E
  tests a n = tests_of_each (λ j. test (Fact j) (only (told j))) (range_with_len a n) later

  go_on : (a n : ℕ) (e : E) → ((j : ℕ) → a ≤ j → j < a + n → Fact j) → Refuses later e → Refuses (tests a n) e
  go_on a zero e each refuses = refuses
  go_on a (suc n) e each refuses = inr (each a (omega arith) (omega arith), go_on (a + 1) n e (λ j le lt. each j (omega arith) (omega arith)) refuses)

  fails : (a n j : ℕ) → a ≤ j → j < a + n → ((k : ℕ) → a ≤ k → k < j → Fact k) → (Fact j → ⊥) → Refuses (tests a n) (told j)
  fails a zero j le lt before not = absurd (omega arith)
  fails a (suc n) j le lt before not = elim (cases_lt a j) [
    | inl above ↦ inr (before a (omega arith) above, fails (a + 1) n j (omega arith) (omega arith) (λ k low high. before k (omega arith) high) not)
    | inr same ↦ let e : a ≡ j = omega arith in subst (λ i. Refuses (tests a (suc n)) (told i)) e (inl (subst (λ i. Fact i → ⊥) (sym e) not, refl))
  ]

  -- what is reported is of one that fails, or of what comes later, where each holds
  split : (a n : ℕ) (e : E) → Refuses (tests a n) e
      → ((j : ℕ) × (a ≤ j) × (j < a + n) × (Fact j → ⊥) × (e ≡ told j)) ⊎ (((j : ℕ) → a ≤ j → j < a + n → Fact j) × Refuses later e)
  split a zero e h = inr (λ j le lt. absurd (omega arith), h)
  split a (suc n) e (inl here) = inl (a, omega arith, omega arith, here.0, here.1)
  split a (suc n) e (inr there) = elim (split (a + 1) n e there.1) [
    | inl one ↦ inl (one.0, omega (arith, one.1), omega (arith, one.2), one.3, one.4)
    | inr all ↦ inr (
      λ j le lt. elim (cases_lt a j) [
        | inl above ↦ all.0 j (omega arith) (omega arith)
        | inr same ↦ let is : a ≡ j = omega arith in subst Fact is there.0
      ],
      all.1,
    )
  ]

-- ---- of links
module _ (Fact : LinkRow → Type 0) (fault : ProblemFault) (rows : List LinkRow) (later : Tests ProblemMisfit) where
  abbrev Here : ℕ → Type 0
  Here j = Fact (slice_index_or rows j no_link)

  -- where the fact holds of each link, later tests report
  pub none_fails : (told : ProblemMisfit) → All Fact rows → Refuses later told → Refuses (tests_of_needs Fact fault rows later) told
  none_fails told all refuses = go_on Here (λ j. misfit fault (Needs j)) later 0 (length rows) told (λ j le lt. all j no_link (omega arith)) refuses

  -- the first link of which it does not hold is reported
  pub first_fails : (j : ℕ) (told : ProblemMisfit) → IsFirstNot Fact rows (Some j) → told ≡ misfit fault (Needs j) → Refuses (tests_of_needs Fact fault rows later) told
  first_fails j told first is =
      subst (Refuses (tests_of_needs Fact fault rows later)) (sym is)
      (fails Here (λ j. misfit fault (Needs j)) later 0 (length rows) j (omega arith) (omega (arith, first.0)) (λ k low high. first.2 k no_link low high) (first.1 no_link))

-- tests with places report the faults that these do
record Tell (placed : Tests ProblemMisfit) (plain : Tests ProblemFault) : Type 0 where
  pub faults : (told : ProblemMisfit) → Refuses placed told → Refuses plain told.fault

tell_one : (fact : Type 0) (at : ProblemMisfit) {placed : Tests ProblemMisfit} {plain : Tests ProblemFault} → Tell placed plain
    → Tell (test fact (only at) placed) (test fact (only at.fault) plain)
tell_one fact at {placed} {plain} more = record {
  faults = λ told h. elim h [
    | inl here ↦ inl (here.0, ap (λ (m : ProblemMisfit). m.fault) here.1)
    | inr there ↦ inr (there.0, more.faults told there.1)
  ];
}

tell_needs : (Fact : LinkRow → Type 0) (fault : ProblemFault) (rows : List LinkRow) {later : Tests ProblemMisfit} {plain : Tests ProblemFault} → Tell later plain
    → Tell (tests_of_needs Fact fault rows later) (test (All Fact rows) (only fault) plain)
tell_needs Fact fault rows {later} {plain} more = record {
  faults = λ told h. elim (split (λ j. Fact (slice_index_or rows j no_link)) (λ j. misfit fault (Needs j)) later 0 (length rows) told h) [
    | inl one ↦ inl (λ all. one.3 (all one.0 no_link (omega (arith, one.2))), ap (λ (m : ProblemMisfit). m.fault) one.4)
    | inr all ↦ inr (λ k d lt. subst Fact (get_or_default rows k no_link d lt) (all.0 k (omega arith) (omega arith)), more.faults told all.1)
  ];
}

tell_nothing : Tell (no_more nothing) (no_more nothing)
tell_nothing = record { faults = λ told h. h }

all_tell : (links points needs : ℕ) (rows : List LinkRow) (costs : List ℕ) → Tell (placed_limited links points needs rows costs) (limited_tests links points needs rows costs)
all_tell links points needs rows costs =
    tell_one _ (misfit TooManyLinks Links) (tell_one _ (misfit TooManyPoints Points)
    (tell_needs (λ r. length r.needs ≤ needs) TooManyNeeds rows
    (tell_needs (λ r. All (λ p. p < length costs) r.needs) NeedOutOfRange rows
    (tell_needs (λ r. IsStrictlyIncreasing r.needs) NeedsNotAscending rows
    (tell_one _ (misfit GainTooLarge Links) (tell_one _ (misfit CostTooLarge Whole) tell_nothing))))))

-- tests with places report the faults of the tests without places
pub unplaced : (links points needs : ℕ) (rows : List LinkRow) (costs : List ℕ) (told : ProblemMisfit)
    → Refuses (placed_limited links points needs rows costs) told → Refuses (limited_tests links points needs rows costs) told.fault
unplaced links points needs rows costs told h = (all_tell links points needs rows costs).faults told h

-- the rows and costs that were tested are those that were given
pub given_refuse : (tested rows : List LinkRow) (paid costs : List ℕ) (told : ProblemMisfit) → tested ≡ rows → paid ≡ costs
    → Refuses (placed_large_tests tested paid) told → Refuses (placed_large_tests rows costs) told
given_refuse tested rows paid costs told same alike h =
    subst (λ xs. Refuses (placed_large_tests xs costs) told) same (subst (λ xs. Refuses (placed_large_tests tested xs) told) alike h)

-- ---- what sums are tested by
pub fails_at : {P : Type 0} (b : Bool) → Decides b P → b ≡ false → P → ⊥
fails_at b d h p = true≢false (sym (d.1 p) ∙ h)

pub gains_decide : (rows : List LinkRow) (costs : List ℕ) (fit : Bool) → fit ≡ leb (sum_by kept_gain rows) greatest_sum → Decides fit (sum_of_gains (problem_of rows costs) ≤ greatest_sum)
gains_decide rows costs fit e = rw (e, kept_gains rows costs) (leb-true (sum_by kept_gain rows) greatest_sum, le-leb (sum_by kept_gain rows) greatest_sum)

pub costs_decide : (rows : List LinkRow) (costs : List ℕ) (fit : Bool) → fit ≡ leb (sum costs + sum_by (λ r. r.charge) rows) greatest_sum
    → Decides fit (sum_of_costs (problem_of rows costs) + sum_of_charges (problem_of rows costs) ≤ greatest_sum)
costs_decide rows costs fit e =
    let all = sum costs + sum_by (λ (r : LinkRow). r.charge) rows in
    rw (e, kept_costs rows costs, kept_charges rows costs) (leb-true all greatest_sum, le-leb all greatest_sum)

-- what follows of a result in both cases
pub both_ways : {T E : Type 0} {P Q : T → Type 0} {R S : E → Type 0} (r : Result T E) → ((x : T) → P x → Q x) → ((e : E) → R e → S e) → MatchResult r P R → MatchResult r Q S
both_ways (Ok x) f g h = f x h
both_ways (Err e) f g h = g e h
