-- The decided tests of a problem refuse what `version_tests` refuse.
use Rattle.std.proofs.Common.{◌≡◌, ℕ, zero, suc, ◌+◌, ◌<◌, ◌≤◌, List, [], ◌∷◌, Bool, true, false, Some, None, inl, inr, refl, sym, subst, ap, arith, length}
use Rattle.std.specs.Prelude.{nat_le, nat_lt, ◌&&◌}
use Rattle.std.specs.Bool.{Decides}
use Rattle.std.specs.List.{All, list_all, slice_index}
use Rattle.std.specs.List.Sorted.{IsStrictlyIncreasing}
use Rattle.std.proofs.lemmas.Bool.{leb-true, le-leb, true≢false}
use Rattle.std.proofs.lemmas.Bool.Decides.{Decides-and, Decides-by_and, Decides-like, Decides-ltb}
use Rattle.mh_base.specs.Listed.{Decided, first_failing}
use Rattle.mh_base.specs.Tests.{Tests, no_more, test, only, nothing, Passes, Refuses}
use Rattle.mh_network.specs.declared.link_row.LinkRow.{LinkRow}
use Rattle.mh_json.specs.declared.json.problem.ProblemRows.{ProblemRows}
use Rattle.mh_json.specs.Versions.{version_tests}
use Rattle.mh_json.specs.Problems.{ascend, ascend_from, decided_tests, needs_known}

-- What tests refuse is the cause of the first decided one that fails, and they pass where none fails.
pub record Tell {E : Type 0} (tests : Tests E) (decided : Decided E) : Type 0 where
  pub refuses : (told : E) → Refuses tests told → first_failing decided ≡ Some told
  pub passes : Passes tests → first_failing decided ≡ None
  pub refused : (told : E) → first_failing decided ≡ Some told → Refuses tests told
  pub passed : first_failing decided ≡ None → Passes tests

same_some : {E : Type 0} (a b : E) → Some a ≡ Some b → a ≡ b
same_some a b is = cc

none_is_no_some : {E : Type 0} (a : E) → None ≡ Some a → ⊥
none_is_no_some a is = cc

some_is_no_none : {E : Type 0} (a : E) → Some a ≡ None → ⊥
some_is_no_none a is = cc

no_tests : {E : Type 0} → Tell {E = E} (no_more nothing) []
no_tests = record { refuses = λ told r. absurd r; passes = λ p. refl; refused = λ told is. absurd (none_is_no_some told is); passed = λ is. tt }

module _ {E : Type 0} (fact : Type 0) (e : E) (tests : Tests E) (decided : Decided E) where
  one_more : (b : Bool) → Decides b fact → Tell tests decided → Tell (test fact (only e) tests) ((b, e) ∷ decided)
  one_more true is rest = record {
    refuses = refuses;
    passes = λ p. rest.passes p.1;
    refused = λ told failing. inr (is.0 refl, rest.refused told failing);
    passed = λ none. (is.0 refl, rest.passed none);
  }
    where
      refuses : (told : E) → Refuses (test fact (only e) tests) told → first_failing ((true, e) ∷ decided) ≡ Some told
      refuses told (inl fails) = absurd (fails.0 (is.0 refl))
      refuses told (inr later) = rest.refuses told later.1
  one_more false is rest = record {
    refuses = refuses;
    passes = λ p. absurd (true≢false (sym (is.1 p.0)));
    refused = λ told failing. inl ((λ holds. true≢false (sym (is.1 holds))), sym (same_some e told failing));
    passed = λ none. absurd (some_is_no_none e none);
  }
    where
      refuses : (told : E) → Refuses (test fact (only e) tests) told → first_failing ((false, e) ∷ decided) ≡ Some told
      refuses told (inl fails) = ap Some (sym fails.1)
      refuses told (inr later) = absurd (true≢false (sym (is.1 later.0)))

pub at_most : (a b : ℕ) → Decides (nat_le a b) (a ≤ b)
at_most a b = (leb-true a b, le-leb a b)

of_each : {X : Type 0} (p : X → Bool) (P : X → Type 0) → ((x : X) → Decides (p x) (P x)) → (xs : List X) → Decides (list_all p xs) (All P xs)
of_each p P each xs = Decides-by_and p P (list_all p) each refl (λ _ _. refl) xs

-- the next number is above the first, and the rest ascend from it
ascends_from : (n : ℕ) (xs : List ℕ) → Decides (ascend_from n xs) (IsStrictlyIncreasing (n ∷ xs))
ascends_from n [] = (λ e k lt. absurd (omega arith), λ rising. refl)
ascends_from n (m ∷ more) = Decides-like (nat_lt n m && ascend_from m more) rises splits (Decides-and (nat_lt n m) (ascend_from m more) (Decides-ltb n m) (ascends_from m more))
  where
    -- the number behind place k of the rest
    behind : (k : ℕ) → slice_index (n ∷ m ∷ more) (suc k + 1) ≡ slice_index (m ∷ more) (k + 1)
    behind k = let next : suc k + 1 ≡ suc (k + 1) = omega arith in ap (slice_index (n ∷ m ∷ more)) next

    rises : (n < m) × IsStrictlyIncreasing (m ∷ more) → IsStrictlyIncreasing (n ∷ m ∷ more)
    rises h zero lt = h.0
    rises h (suc k) lt = subst (λ (b : ℕ). slice_index (m ∷ more) k < b) (sym (behind k)) (h.1 k (omega arith))

    splits : IsStrictlyIncreasing (n ∷ m ∷ more) → (n < m) × IsStrictlyIncreasing (m ∷ more)
    splits rising = (rising 0 (omega arith), λ k lt. subst (λ (b : ℕ). slice_index (m ∷ more) k < b) (behind k) (rising (suc k) (omega arith)))

pub ascends : (xs : List ℕ) → Decides (ascend xs) (IsStrictlyIncreasing xs)
ascends [] = (λ e k lt. absurd (omega arith), λ rising. refl)
ascends (n ∷ more) = ascends_from n more

pub knows : (points : ℕ) (r : LinkRow) → Decides (needs_known points r) (All (λ p. p < points) r.needs)
knows points r = of_each (λ p. nat_lt p points) (λ p. p < points) (λ p. Decides-ltb p points) r.needs

-- the decided tests of a problem are its tests
pub decided : (rows : ProblemRows) → Tell (version_tests rows.version rows.links rows.costs) (decided_tests rows)
decided rows =
    one_more _ _ _ _ _ (at_most _ _) (
    one_more _ _ _ _ _ (at_most _ _) (
    one_more _ _ _ _ _ (at_most _ _) (
    one_more _ _ _ _ _ (at_most _ _) (
    one_more _ _ _ _ _ (of_each (λ (r : LinkRow). nat_le (length r.needs) 8) (λ r. length r.needs ≤ 8) (λ r. at_most _ _) rows.links) (
    one_more _ _ _ _ _ (of_each (needs_known (length rows.costs)) (λ r. All (λ p. p < length rows.costs) r.needs) (knows (length rows.costs)) rows.links) (
    one_more _ _ _ _ _ (of_each (λ (r : LinkRow). ascend r.needs) (λ r. IsStrictlyIncreasing r.needs) (λ r. ascends r.needs) rows.links) (
    one_more _ _ _ _ _ (at_most _ _) (
    one_more _ _ _ _ _ (at_most _ _) no_tests))))))))
