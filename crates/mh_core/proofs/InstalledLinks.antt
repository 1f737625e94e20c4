-- What an installation reads of a book, and what its loops gather.
use Rattle.std.proofs.Common.{◌≡◌, inl, inr, ℕ, zero, suc, ◌+◌, ◌-◌, ◌<◌, ◌≤◌, ◌==◌, Bool, true, false, not, ◌&&◌, cond, nat_lt, List, [], ◌∷◌, ◌++◌, length, map, filter, slice_index_or, Result, Ok, Err, refl, sym, subst, ap, ◌∙◌, arith}
use Rattle.std.specs.Prelude.{reverse}
use Rattle.std.specs.List.{range_with_len}
use Rattle.std.specs.List.Sorted.{IsBinarySearchResult, IsStrictlyIncreasing}
use Rattle.std.specs.Ordering.{nat_cmp}
use Rattle.std.specs.Result.{is_ok}
use Rattle.std.proofs.lemmas.Bool.{cases_Bool, cases_lt, eq-eqb, ne_eqb, false≢true, or_left, or_right}
use Rattle.std.proofs.lemmas.Bool.Decides.{Decides-ltb}
use Rattle.std.proofs.lemmas.Grind.{get_or_default_zero}
use Rattle.std.proofs.lemmas.List.{append-nil, map-append, map-id}
use Rattle.std.proofs.lemmas.List.Elements.{filter-append}
use Rattle.std.proofs.lemmas.List.Folds.{list_any_none}
use Rattle.std.proofs.lemmas.List.FromFn.{map-range_with_len_more}
use Rattle.std.proofs.lemmas.List.Kept.{AllPairs-from_increasing}
use Rattle.std.proofs.lemmas.List.Sorted.{searched}
use Rattle.mh_network.specs.Selection.{member}
use Rattle.mh_site.specs.Links.{links, link_at}
use Rattle.mh_site.specs.Worlds.{WorldState, state_at}
use Rattle.mh_core.specs.Books.{BookState, IsBook}
use Rattle.mh_core.specs.Installations.{IsPublished, PublishedPlan, plan_at}
use Rattle.mh_core.specs.Problems.{IsTaken, is_eligible}
use Rattle.mh_core.specs.Records.{numbers, past, version}
use Rattle.mh_core.specs.Snapshots.{SnapshotState}
use Rattle.mh_core.specs.inner.Tables.{are_valid}
use Rattle.mh_core.specs.Laws.PastSnapshots.{eligible_same}
use Rattle.mh_core.specs.Laws.PlanTables.{plan_read, was_tested}
use Rattle.mh_core.proofs.Standing.{kept_read, valid_now}
use Rattle.mh_core.specs.Laws.Worlds.{read, site_after, world_sites}

-- ---- what a book has now
pub state_now : (b : BookState) (s : ℕ) → IsBook b → s < length b.definition.sites → state_at b.world s ≡ site_after b.definition b.records s
state_now b s is h = ap (λ (w : WorldState). state_at w s) is.world ∙ read b.definition b.records s h

pub sites_now : (b : BookState) → IsBook b → length b.world.sites ≡ length b.definition.sites
sites_now b is = ap (λ (w : WorldState). length w.sites) is.world ∙ world_sites b.definition b.records

-- whether a link is eligible, by a book's table
pub eligible_now : (b : BookState) (valid : List Bool) (needs : List ℕ) (j : ℕ) → IsBook b → valid ≡ b.world.valid → needs ≡ (link_at b.definition j).1.needs → j < length (links b.definition)
    → are_valid valid needs ≡ is_eligible b.definition b.records j
eligible_now b valid needs j is same asked h =
    ap (are_valid valid) asked
    ∙ (ap (λ (v : List Bool). are_valid v (link_at b.definition j).1.needs) (same ∙ valid_now b is) ∙ eligible_same b.definition b.records j is.definition h)

-- ---- the snapshot of a plan
-- a plan's snapshot as it is read, by a book that callers see as `now`
pub record ReadsPlan (b now : BookState) (kept : List PublishedPlan) (m : ℕ) (p : PublishedPlan) (n : ℕ) : Type 0 where
  pub book : IsBook b
  pub seen : b ≡ now
  pub plans : b.plans ≡ reverse kept
  pub published : IsPublished now.records m
  pub which : p ≡ slice_index_or kept (m - 1) p
  pub number : n ≡ p.snapshot

abbrev pub versions_of : BookState → ℕ → List ℕ
versions_of b m = map (version (past b.records (plan_at b.records m).snapshot)) (numbers (length b.definition.sites))

module _ (b now : BookState) (kept : List PublishedPlan) (m : ℕ) (p : PublishedPlan) (n : ℕ) (h : ReadsPlan b now kept m p n) where
  is_now : IsBook now
  is_now = subst IsBook h.seen h.book

  number_is : n ≡ (plan_at now.records m).snapshot
  number_is = h.number ∙ ap (λ (q : PublishedPlan). q.snapshot) (plan_read b now kept m p h.book h.seen h.plans h.published h.which)

  pub plan_taken : IsTaken now.records n
  plan_taken = subst (IsTaken now.records) (sym number_is) (was_tested now.definition now.limits now.records m is_now.legal h.published).taken

  pub versions_read : (snapshots : List SnapshotState) (s : SnapshotState) (versions : List ℕ) → b.snapshots ≡ reverse snapshots → s ≡ slice_index_or snapshots (n - 1) s → versions ≡ s.versions → versions ≡ versions_of now m
  versions_read snapshots s versions oldest which same =
      let kept_then = kept_read now snapshots n s is_now (sym (ap (λ (x : BookState). x.snapshots) h.seen) ∙ oldest) plan_taken which in
      same ∙ (ap (λ (x : SnapshotState). x.versions) kept_then ∙ ap (λ (i : ℕ). map (version (past now.records i)) (numbers (length now.definition.sites))) number_is)

-- ---- whether a list has a number
member_at : (xs : List ℕ) (k x : ℕ) → k < length xs → slice_index_or xs k 0 ≡ x → member xs x ≡ true
member_at [] k x h e = absurd (omega arith)
member_at (y ∷ ys) zero x h e = or_left (y == x) (member ys x) (eq-eqb y x e)
member_at (y ∷ ys) (suc k) x h e = or_right (y == x) (member ys x) (member_at ys k x (omega arith) e)

rises : (xs : List ℕ) → IsStrictlyIncreasing xs → (i j : ℕ) → i ≤ j → j < length xs → slice_index_or xs i 0 ≤ slice_index_or xs j 0
rises xs up i j le h = elim (cases_lt i j) [
  | inl earlier ↦ let below = AllPairs-from_increasing xs up i j 0 earlier h in omega arith
  | inr same ↦ let e : i ≡ j = omega arith in let reads = ap (λ (k : ℕ). slice_index_or xs k 0) e in omega arith
]

pub found_member : (xs : List ℕ) (x : ℕ) (r : Result ℕ ℕ) → IsStrictlyIncreasing xs → IsBinarySearchResult (λ y. nat_cmp y x) xs r → is_ok r ≡ member xs x
found_member xs x (Ok i) up found = let at = searched xs x (Ok i) found (rises xs up) in sym (member_at xs i x at.0 at.1)
found_member xs x (Err i) up found =
    let at = searched xs x (Err i) found (rises xs up) in
    sym (list_any_none (λ y. y == x) xs (λ k d h.
    let zero_read = get_or_default_zero xs k d h in
    ne_eqb (slice_index_or xs k d) x (λ e. elim (cases_lt k i) [
      | inl before ↦ omega (arith, at.1 k before, zero_read, e)
      | inr behind ↦ omega (arith, at.2 k behind h, zero_read, e)
    ])))

-- ---- what loops over numbers gather
-- what f makes of those of n numbers, from a on, that pass a test
abbrev pub gathered : {X : Type 0} → (ℕ → X) → (ℕ → Bool) → ℕ → ℕ → List X
gathered f p a n = map f (filter p (range_with_len a n))

one_more : (a n j : ℕ) → a + n ≡ j → range_with_len a (n + 1) ≡ range_with_len a n ++ j ∷ []
one_more a n j e =
    sym (map-id (range_with_len a (n + 1))) ∙ (map-range_with_len_more (λ i. i) a n j e ∙ ap (λ (l : List ℕ). l ++ j ∷ []) (map-id (range_with_len a n)))

gathered_more : {X : Type 0} (f : ℕ → X) (p : ℕ → Bool) (a n j next : ℕ) → a + n ≡ j → next ≡ n + 1 → gathered f p a next ≡ gathered f p a n ++ map f (cond (p j) (j ∷ []) [])
gathered_more f p a n j next e more =
    ap (gathered f p a) more
    ∙ (ap (λ (l : List ℕ). map f (filter p l)) (one_more a n j e)
    ∙ (ap (map f) (filter-append p (range_with_len a n) (j ∷ [])) ∙ map-append f (filter p (range_with_len a n)) (cond (p j) (j ∷ []) [])))

-- a step that pushes, and one that does not
pub gather_pass : {X : Type 0} (f : ℕ → X) (p : ℕ → Bool) (a n j next : ℕ) (xs ys : List X) (x : X) → a + n ≡ j → next ≡ n + 1 → xs ≡ gathered f p a n → p j ≡ true → x ≡ f j → ys ≡ xs ++ x ∷ []
    → ys ≡ gathered f p a next
gather_pass f p a n j next xs ys x e more before passes same push =
    push
    ∙ (ap (λ zs. zs ++ x ∷ []) before
    ∙ (ap (λ z. gathered f p a n ++ z ∷ []) same
    ∙ (sym (ap (λ (b : Bool). gathered f p a n ++ map f (cond b (j ∷ []) [])) passes) ∙ sym (gathered_more f p a n j next e more))))

pub gather_skip : {X : Type 0} (f : ℕ → X) (p : ℕ → Bool) (a n j next : ℕ) (xs : List X) → a + n ≡ j → next ≡ n + 1 → xs ≡ gathered f p a n → p j ≡ false → xs ≡ gathered f p a next
gather_skip f p a n j next xs e more before fails =
    before
    ∙ (sym (append-nil (gathered f p a n))
    ∙ (sym (ap (λ (b : Bool). gathered f p a n ++ map f (cond b (j ∷ []) [])) fails) ∙ sym (gathered_more f p a n j next e more)))

-- two tests, one after the other, are one
pub filter_both : {X : Type 0} (p q : X → Bool) (xs : List X) → filter q (filter p xs) ≡ filter (λ x. p x && q x) xs
filter_both p q [] = refl
filter_both p q (x ∷ xs) = by_test (p x) (filter_both p q xs)
  where
    by_test : (b : Bool) → filter q (filter p xs) ≡ filter (λ y. p y && q y) xs
        → filter q (cond b (x ∷ filter p xs) (filter p xs)) ≡ cond (b && q x) (x ∷ filter (λ y. p y && q y) xs) (filter (λ y. p y && q y) xs)
    by_test true later = ap (λ l. cond (q x) (x ∷ l) l) later
    by_test false later = later

-- a number that passes is among those that do
pub some_pass : (p : ℕ → Bool) (a n j : ℕ) → a ≤ j → j < a + n → p j ≡ true → nat_lt 0 (length (filter p (range_with_len a n))) ≡ true
some_pass p a zero j least most passes = absurd (omega arith)
some_pass p a (suc n) j least most passes = by_test (p a) refl (λ later. some_pass p (a + 1) n j (omega arith) (omega arith) passes)
  where
    by_test : (b : Bool) → p a ≡ b → (a < j → nat_lt 0 (length (filter p (range_with_len (a + 1) n))) ≡ true)
        → nat_lt 0 (length (cond b (a ∷ filter p (range_with_len (a + 1) n)) (filter p (range_with_len (a + 1) n)))) ≡ true
    by_test true e among = (Decides-ltb 0 (suc (length (filter p (range_with_len (a + 1) n))))).1 (omega arith)
    by_test false e among = elim (cases_lt a j) [
      | inl later ↦ among later
      | inr first ↦ let same : j ≡ a = omega arith in absurd (false≢true (sym e ∙ (ap p (sym same) ∙ passes)))
    ]

-- a length that is not 0
pub some_length : (n : ℕ) → not (n == 0) ≡ nat_lt 0 n
some_length zero = refl
some_length (suc n) = ap not (ne_eqb (suc n) 0 (λ e. absurd (omega arith))) ∙ sym ((Decides-ltb 0 (suc n)).1 (omega arith))

-- what passes both tests, where the second is looked at last
pub gather_both : {X : Type 0} (f : ℕ → X) (p q : ℕ → Bool) (n next : ℕ) (xs ys : List X) → next ≡ n + 1 → xs ≡ gathered f (λ s. p s && q s) 0 n → p n ≡ true → (q n ≡ true → ys ≡ xs ++ f n ∷ []) → (q n ≡ false → ys ≡ xs)
    → ys ≡ gathered f (λ s. p s && q s) 0 next
gather_both f p q n next xs ys more before first pushed skipped = elim (cases_Bool (q n)) [
  | inl second ↦ let both : (p n && q n) ≡ true = cc in gather_pass f (λ s. p s && q s) 0 n n next xs ys (f n) (omega arith) more before both refl (pushed second)
  | inr second ↦ let one : (p n && q n) ≡ q n = ap (λ (b : Bool). b && q n) first in rw (skipped second) (gather_skip f (λ s. p s && q s) 0 n n next xs (omega arith) more before (one ∙ second))
]
