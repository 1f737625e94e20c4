-- What decided tests in a list say, beside facts and by number.
use Rattle.std.proofs.Common.{◌≡◌, inl, inr, ℕ, zero, suc, ◌+◌, ◌-◌, ◌≤◌, ◌<◌, cond, Bool, true, false, List, [], ◌∷◌, ◌++◌, length, take, slice_index_or, refl, ap, sym, subst, ◌∙◌, arith, Option, Some, None, ◌⊎◌, true≢false}
use Rattle.std.specs.List.{flat_map, range_with_len}
use Rattle.std.specs.Option.{option_or}
use Rattle.std.proofs.lemmas.Bool.{cases_lt}
use Rattle.std.proofs.lemmas.List.{get_or_read}
use Rattle.std.specs.Bool.{Decides}
use Rattle.mh_base.specs.Tests.{Tests, test, only, Passes, Refuses}
use Rattle.mh_base.specs.Listed.{Decided, first_failing, tests_of_each}

module _ {E : Type 0} where
  or_later : (b : Bool) (fault : E) (one other both : Option E) → both ≡ option_or one other
      → cond b both (Some fault) ≡ option_or (cond b one (Some fault)) other
  or_later true fault one other both e = e
  or_later false fault one other both e = refl

  pub first_of_two : (xs ys : Decided E) → first_failing (xs ++ ys) ≡ option_or (first_failing xs) (first_failing ys)
  first_of_two [] ys = refl
  first_of_two (t ∷ xs) ys = or_later t.0 t.1 (first_failing xs) (first_failing ys) (first_failing (xs ++ ys)) (first_of_two xs ys)

  -- each holds
  abbrev pub Hold : Decided E → Type 0
  Hold [] = Unit {0}
  Hold (t ∷ ts) = (t.0 ≡ true) × Hold ts

  one_holds : (b : Bool) (fault : E) (later : Option E) (More : Type 0) → (later ≡ None → More) → cond b later (Some fault) ≡ None → (b ≡ true) × More
  one_holds true fault later More more h = (refl, more h)
  one_holds false fault later More more h = cc

  -- where none fails, each holds
  pub all_hold : (ts : Decided E) → first_failing ts ≡ None → Hold ts
  all_hold [] h = tt
  all_hold (t ∷ ts) h = one_holds t.0 t.1 (first_failing ts) (Hold ts) (all_hold ts) h

  or_none : (one other : Option E) → option_or one other ≡ None → (one ≡ None) × (other ≡ None)
  or_none None other h = (refl, h)
  or_none (Some fault) other h = cc

  -- where none of two lists fails, none of either does
  pub both_hold : (xs ys : Decided E) → first_failing (xs ++ ys) ≡ None → (first_failing xs ≡ None) × (first_failing ys ≡ None)
  both_hold xs ys h = or_none (first_failing xs) (first_failing ys) (sym (first_of_two xs ys) ∙ h)

  in_two : (one other : Option E) (told : E) → option_or one other ≡ Some told → (one ≡ Some told) ⊎ ((one ≡ None) × (other ≡ Some told))
  in_two None other told h = inr (refl, h)
  in_two (Some fault) other told h = inl h

  -- decided tests say what facts do that stand before later tests
  pub record Agrees (ts : Decided E) (facts later : Tests E) : Type 0 where
    pub pass : first_failing ts ≡ None → Passes later → Passes facts
    pub tell : (told : E) → first_failing ts ≡ Some told → Refuses facts told
    pub go_on : (told : E) → first_failing ts ≡ None → Refuses later told → Refuses facts told

  pub none_agree : (later : Tests E) → Agrees [] later later
  none_agree later = record { pass = λ none passes. passes; tell = λ told h. cc; go_on = λ told none refuses. refuses }

  pub one_agrees : (b : Bool) (fact : Type 0) (fault : E) {ts : Decided E} {facts later : Tests E} → Decides b fact → Agrees ts facts later
      → Agrees ((b, fault) ∷ ts) (test fact (only fault) facts) later
  one_agrees true fact fault decides more = record {
    pass = λ none passes. (decides.0 refl, more.pass none passes);
    tell = λ told h. inr (decides.0 refl, more.tell told h);
    go_on = λ told none refuses. inr (decides.0 refl, more.go_on told none refuses);
  }
  one_agrees false fact fault decides more = record {
    pass = λ none passes. cc;
    tell = λ told h. inl (λ holds. true≢false (sym (decides.1 holds)), cc);
    go_on = λ told none refuses. cc;
  }

  pub two_agree : (xs ys : Decided E) {facts between later : Tests E} → Agrees xs facts between → Agrees ys between later
      → Agrees (xs ++ ys) facts later
  two_agree xs ys one other = record {
    pass = λ none passes. let both = both_hold xs ys none in one.pass both.0 (other.pass both.1 passes);
    tell = λ told h. elim (in_two (first_failing xs) (first_failing ys) told (sym (first_of_two xs ys) ∙ h)) [
      | inl here ↦ one.tell told here
      | inr there ↦ one.go_on told there.0 (other.tell told there.1)
    ];
    go_on = λ told none refuses. let both = both_hold xs ys none in one.go_on told both.0 (other.go_on told both.1 refuses);
  }

  pub each_agree : (tests : ℕ → Decided E) (facts : ℕ → Tests E → Tests E) → ((i : ℕ) (later : Tests E) → Agrees (tests i) (facts i later) later)
      → (is : List ℕ) (later : Tests E) → Agrees (flat_map tests is) (tests_of_each facts is later) later
  each_agree tests facts each [] later = none_agree later
  each_agree tests facts each (i ∷ is) later =
      two_agree (tests i) (flat_map tests is) (each i (tests_of_each facts is later)) (each_agree tests facts each is later)

-- the tests of an element that is read, behind those before it
pub tests_read : {X E : Type 0} (tests : List X → X → Decided E) (xs : List X) (i : ℕ) (x d : X) → i < length xs → x ≡ slice_index_or xs i x
    → first_failing (tests (take i xs) (slice_index_or xs i d)) ≡ first_failing (tests (take i xs) x)
tests_read {X} tests xs i x d lt is = ap (λ (y : X). first_failing (tests (take i xs) y)) (sym (get_or_read xs i x lt is d))

module _ {E : Type 0} (tests : ℕ → Decided E) where
  abbrev pub tests_from : ℕ → ℕ → Decided E
  tests_from i n = flat_map tests (range_with_len i (n - i))

  from_here : (i n : ℕ) → i < n → tests_from i n ≡ tests i ++ tests_from (i + 1) n
  from_here i n lt = let e : n - i ≡ suc (n - (i + 1)) = omega arith in ap (λ k. flat_map tests (range_with_len i k)) e

  first_here : (i n : ℕ) → i < n → first_failing (tests_from i n) ≡ option_or (first_failing (tests i)) (first_failing (tests_from (i + 1) n))
  first_here i n lt = ap first_failing (from_here i n lt) ∙ first_of_two (tests i) (tests_from (i + 1) n)

  pub passed_here : (i n : ℕ) → i < n → first_failing (tests i) ≡ None → first_failing (tests_from (i + 1) n) ≡ first_failing (tests_from i n)
  passed_here i n lt h = sym (first_here i n lt ∙ ap (λ (o : Option E). option_or o (first_failing (tests_from (i + 1) n))) h)

  pub failed_here : (i n : ℕ) (fault : E) → i < n → first_failing (tests i) ≡ Some fault → first_failing (tests_from i n) ≡ Some fault
  failed_here i n fault lt h = first_here i n lt ∙ ap (λ (o : Option E). option_or o (first_failing (tests_from (i + 1) n))) h

-- what the facts of each number say where all pass
module _ {E : Type 0} (facts : ℕ → Tests E → Tests E) (Fact : ℕ → Type 0)
    (reads : (i : ℕ) (later : Tests E) → Passes (facts i later) → Fact i × Passes later) where
  pub each_fact : (a n : ℕ) (later : Tests E) → Passes (tests_of_each facts (range_with_len a n) later)
      → ((i : ℕ) → a ≤ i → i < a + n → Fact i) × Passes later
  each_fact a zero later passes = (λ i le lt. absurd (omega arith), passes)
  each_fact a (suc n) later passes =
      let here = reads a (tests_of_each facts (range_with_len (a + 1) n) later) passes in
      let more = each_fact (a + 1) n later here.1 in (
        λ i le lt. elim (cases_lt a i) [
          | inl above ↦ more.0 i (omega arith) (omega arith)
          | inr same ↦ let e : a ≡ i = omega arith in subst Fact e here.0
        ],
        more.1,
      )
