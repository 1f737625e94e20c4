-- The first of some that fails a test, as it was found.
use Rattle.std.proofs.Common.{◌≡◌, ◌≢◌, inl, inr, ◌∷◌, ℕ, zero, suc, ◌+◌, ◌≤◌, ◌<◌, Bool, true, false, not, cond, List, length, take, slice_index_or, refl, ap, sym, subst, ◌∙◌, arith, Option, Some, None, ltb, nat_lt, leb, Decides, true≢false}
use Rattle.std.specs.List.{All, AllPairs, list_all, list_any, position, position_or_len, range_with_len}
use Rattle.std.specs.Option.{is_none, unwrap_or}
use Rattle.std.proofs.lemmas.Bool.{cases_lt}
use Rattle.std.proofs.lemmas.Bool.Decides.{Decides-like, nat_tests, same_from_decides}
use Rattle.std.proofs.lemmas.List.{get_or_default, get_or_read, get_or-take, length-take-le}
use Rattle.std.proofs.lemmas.Option.{none-some}
use Rattle.std.proofs.lemmas.List.FromFn.{get_or-range_with_len, length-range_with_len}
use Rattle.std.proofs.lemmas.List.Quantifiers.{position-Some}
use Rattle.std.proofs.lemmas.List.Sums.{fails_before_first, position_or_len_is}
use Rattle.mh_base.specs.Listed.{Decided, first_failing, tests_of_each}
use Rattle.mh_base.specs.Tests.{Tests, Passes, Refuses, test, only}
use Rattle.mh_site.specs.declared.link.Link.{Link}
use Rattle.mh_site.specs.Defined.{no_link}
use Rattle.mh_site.specs.Definitions.{all_differ, same_key}
use Rattle.mh_site.specs.Places.{unfit, key_new, key_twice}
use Rattle.mh_site.proofs.Listed.{Agrees}
use Rattle.mh_site.proofs.Rules.{each_decides, keys_decide, new_key_decides}

-- none of the first n fails, or this one is the first that does
abbrev pub Finds : Option ℕ → (ℕ → Type 0) → ℕ → Type 0
Finds None Fact n = (j : ℕ) → j < n → Fact j
Finds (Some i) Fact n = (i < n) × (Fact i → ⊥) × ((k : ℕ) → k < i → Fact k)

-- ---- tests of each number
module _ {E : Type 0} (Fact : ℕ → Type 0) (told : ℕ → E) (later : Tests E) where
  abbrev tests : ℕ → ℕ → Tests E
  tests a n = tests_of_each (λ j. test (Fact j) (only (told j))) (range_with_len a n) later

  pass_on : (a n : ℕ) → ((j : ℕ) → a ≤ j → j < a + n → Fact j) → Passes later → Passes (tests a n)
  pass_on a zero each passes = passes
  pass_on a (suc n) each passes = (each a (omega arith) (omega arith), pass_on (a + 1) n (λ j le lt. each j (omega arith) (omega arith)) passes)

  tell_on : (a n : ℕ) (e : E) → ((j : ℕ) → a ≤ j → j < a + n → Fact j) → Refuses later e → Refuses (tests a n) e
  tell_on a zero e each refuses = refuses
  tell_on a (suc n) e each refuses = inr (each a (omega arith) (omega arith), tell_on (a + 1) n e (λ j le lt. each j (omega arith) (omega arith)) refuses)

  tell_first : (a n j : ℕ) → a ≤ j → j < a + n → ((k : ℕ) → a ≤ k → k < j → Fact k) → (Fact j → ⊥) → Refuses (tests a n) (told j)
  tell_first a zero j le lt before not = absurd (omega arith)
  tell_first a (suc n) j le lt before not = elim (cases_lt a j) [
    | inl above ↦ inr (before a (omega arith) above, tell_first (a + 1) n j (omega arith) (omega arith) (λ k low high. before k (omega arith) high) not)
    | inr same ↦ let e : a ≡ j = omega arith in subst (λ i. Refuses (tests a (suc n)) (told i)) e (inl (subst (λ i. Fact i → ⊥) (sym e) not, refl))
  ]

-- what was found says what the facts do
pub found_agrees : {E : Type 0} (found : Option ℕ) (Fact : ℕ → Type 0) (told : ℕ → E) (n : ℕ) {ts : Decided E} {facts later : Tests E} → Finds found Fact n → Agrees ts facts later
    → Agrees ((is_none found, told (unwrap_or found 0)) ∷ ts) (tests_of_each (λ j. test (Fact j) (only (told j))) (range_with_len 0 n) facts) later
found_agrees None Fact told n {ts} {facts} {later} all more = record {
  pass = λ none passes. pass_on Fact told facts 0 n (λ j le lt. all j (omega arith)) (more.pass none passes);
  tell = λ e h. tell_on Fact told facts 0 n e (λ j le lt. all j (omega arith)) (more.tell e h);
  go_on = λ e none refuses. tell_on Fact told facts 0 n e (λ j le lt. all j (omega arith)) (more.go_on e none refuses);
}
found_agrees (Some i) Fact told n {ts} {facts} {later} first more = record {
  pass = λ none passes. cc;
  tell = λ e h.
      let is : told i ≡ e = cc in
      subst (Refuses (tests_of_each (λ j. test (Fact j) (only (told j))) (range_with_len 0 n) facts)) is
      (tell_first Fact told facts 0 n i (omega arith) (omega (arith, first.0)) (λ k low high. first.2 k high) first.1);
  go_on = λ e none refuses. cc;
}

-- none was found where each holds
found_decides : (found : Option ℕ) (Fact : ℕ → Type 0) (n : ℕ) → Finds found Fact n → Decides (is_none found) ((j : ℕ) → j < n → Fact j)
found_decides None Fact n all = (λ _. all, λ _. refl)
found_decides (Some i) Fact n first = (λ h. cc, λ all. absurd (first.1 (all i first.0)))

-- ---- the first that is unfit
fails_at : {P : Type 0} (b : Bool) → Decides b P → not b ≡ true → P → ⊥
fails_at true d h p = absurd (true≢false (sym h))
fails_at false d h p = true≢false (sym (d.1 p))

holds_at : {P : Type 0} (b : Bool) → Decides b P → not b ≡ false → P
holds_at true d h = d.0 refl
holds_at false d h = absurd (true≢false h)

none_before : (k n : ℕ) → cond (nat_lt k n) (Some k) None ≡ None → n ≤ k
none_before k n e = elim (cases_lt k n) [
  | inl under ↦ let is : nat_lt k n ≡ true = grind (arith, nat_tests) in absurd (none-some k (sym e ∙ ap (λ b. cond b (Some k) None) is))
  | inr past ↦ omega (arith, past)
]

module _ {X : Type 0} (passes : X → Bool) (xs : List X) (d : X) (Fact : ℕ → Type 0) (n : ℕ) (same : length xs ≡ n)
    (each : (j : ℕ) → j < n → Decides (passes (slice_index_or xs j d)) (Fact j)) where
  finds_by : (found : Option ℕ) → unfit passes xs ≡ found → Finds found Fact n
  finds_by (Some i) e =
      let at = position-Some (λ x. not (passes x)) xs i d e in
      let inside : i < n = omega (arith, at.0, same) in (
        inside,
        fails_at (passes (slice_index_or xs i d)) (each i inside) at.1,
        λ k lt. holds_at (passes (slice_index_or xs k d)) (each k (omega arith)) (at.2 k lt),
      )
  finds_by None e = λ j lt.
      let past = none_before (position_or_len (λ x. not (passes x)) xs) (length xs) e in
      holds_at (passes (slice_index_or xs j d)) (each j lt) (fails_before_first (λ x. not (passes x)) xs j d (omega (arith, past, same)))

  pub finds : Finds (unfit passes xs) Fact n
  finds = finds_by (unfit passes xs) refl

-- ---- of links
module _ (passes : Link → Bool) (Fact : Link → Type 0) (each : (l : Link) → Decides (passes l) (Fact l)) (links : List Link) where
  pub link_found : Finds (unfit passes links) (λ j. Fact (slice_index_or links j no_link)) (length links)
  link_found = finds passes links no_link (λ j. Fact (slice_index_or links j no_link)) (length links) refl (λ j lt. each (slice_index_or links j no_link))

  -- none is unfit where all pass
  pub none_unfit : is_none (unfit passes links) ≡ list_all passes links
  none_unfit =
      same_from_decides (is_none (unfit passes links)) (list_all passes links)
      (Decides-like (is_none (unfit passes links)) (λ all k d lt. subst Fact (get_or_default links k no_link d lt) (all k lt)) (λ all j lt. all j no_link lt)
      (found_decides (unfit passes links) (λ j. Fact (slice_index_or links j no_link)) (length links) link_found))
      (each_decides passes Fact each links)

-- ---- of keys
abbrev pub New : List Link → ℕ → Type 0
New links j = All (λ k. (slice_index_or links j no_link).when ≢ k.when) (take j links)

pub key_found : (links : List Link) → Finds (key_twice links) (New links) (length links)
unfolding key_twice
key_found links =
    let n = length links in
    finds (key_new links) (range_with_len 0 n) 0 (New links) n (length-range_with_len 0 n)
    (λ j lt. let is : slice_index_or (range_with_len 0 n) j 0 ≡ j = omega (arith, get_or-range_with_len 0 n j 0 lt) in
    subst (λ i. Decides (key_new links i) (New links j)) (sym is) (new_key_decides (slice_index_or links j no_link) (take j links)))

abbrev Differ : Link → Link → Type 0
Differ l k = l.when ≢ k.when

new_pairs : (links : List Link) → ((j : ℕ) → j < length links → New links j) → AllPairs Differ links
new_pairs links new i j d before inside =
    let one : slice_index_or (take j links) i d ≡ slice_index_or links i d = get_or-take j links i d before in
    let other : slice_index_or links j no_link ≡ slice_index_or links j d = get_or_default links j no_link d inside in
    let apart = new j inside i d (omega (arith, before, inside, length-take-le j links (omega arith))) in
    λ e. apart (ap (λ (l : Link). l.when) other ∙ (sym e ∙ ap (λ (l : Link). l.when) (sym one)))

pairs_new : (links : List Link) → AllPairs Differ links → (j : ℕ) → j < length links → New links j
pairs_new links pairs j inside i d lt =
    let before : i < j = omega (arith, lt, inside, length-take-le j links (omega arith)) in
    let one : slice_index_or (take j links) i d ≡ slice_index_or links i d = get_or-take j links i d before in
    let other : slice_index_or links j no_link ≡ slice_index_or links j d = get_or_default links j no_link d inside in
    λ e. pairs i j d before inside (ap (λ (l : Link). l.when) (sym one) ∙ (sym e ∙ ap (λ (l : Link). l.when) other))

-- no link has the key of an earlier one where all keys differ
pub none_twice : (links : List Link) → is_none (key_twice links) ≡ all_differ same_key links
none_twice links =
    same_from_decides (is_none (key_twice links)) (all_differ same_key links)
    (Decides-like (is_none (key_twice links)) (new_pairs links) (pairs_new links) (found_decides (key_twice links) (New links) (length links) (key_found links)))
    (keys_decide links)

-- ---- a search through keys
searched : (links : List Link) (i : ℕ) → i ≤ length links → ((k : ℕ) → k < i → key_new links k ≡ true) → (i < length links → key_new links i ≡ false)
    → key_twice links ≡ cond (nat_lt i (length links)) (Some i) None
unfolding key_twice
searched links i le new here =
    let n = length links in
    let all = range_with_len 0 n in
    let old = λ (j : ℕ). not (key_new links j) in
    let count : length all ≡ n = length-range_with_len 0 n in
    let at = λ (j : ℕ) (lt : j < n). (let is : slice_index_or all j 0 ≡ j = omega (arith, get_or-range_with_len 0 n j 0 lt) in is) in
    let first : position_or_len old all ≡ i =
    position_or_len_is old all i 0 (omega (arith, count, le)) (λ k lt. ap old (at k (omega (arith, lt, le))) ∙ ap not (new k lt))
    (λ lt. ap old (at i (omega (arith, count, lt))) ∙ ap not (here (omega (arith, count, lt)))) in
    rw (first, count) refl

pub found_twice : (links : List Link) (i : ℕ) → i < length links → ((k : ℕ) → k < i → key_new links k ≡ true) → key_new links i ≡ false → Some i ≡ key_twice links
found_twice links i lt new here =
    let inside : nat_lt i (length links) ≡ true = grind (arith, nat_tests) in
    sym (searched links i (omega arith) new (λ _. here) ∙ ap (λ b. cond b (Some i) None) inside)

pub found_none : (links : List Link) (i : ℕ) → i ≡ length links → ((k : ℕ) → k < i → key_new links k ≡ true) → None ≡ key_twice links
found_none links i end new =
    let past : nat_lt i (length links) ≡ false = grind (arith, nat_tests) in
    sym (searched links i (omega arith) new (λ lt. absurd (omega (arith, end, lt))) ∙ ap (λ b. cond b (Some i) None) past)

-- whether the key of a link that was read is new
pub key_read : (links : List Link) (i : ℕ) (l : Link) (twice : Bool) → i < length links → l ≡ slice_index_or links i l → twice ≡ list_any (same_key l) (take i links) → key_new links i ≡ not twice
key_read links i l twice lt is e =
    ap (λ (k : Link). not (list_any (same_key k) (take i links))) (sym (get_or_read links i l lt is no_link)) ∙ ap not (sym e)

-- one more key is new
pub one_newer : (links : List Link) (i : ℕ) → key_new links i ≡ true → ((k : ℕ) → k < i → key_new links k ≡ true) → (k : ℕ) → k < i + 1 → key_new links k ≡ true
one_newer links i here new k below = elim (cases_lt k i) [
  | inl before ↦ new k before
  | inr last ↦ let e : i ≡ k = omega arith in subst (λ j. key_new links j ≡ true) e here
]
