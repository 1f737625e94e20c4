-- Amounts that are added up at their places.
use Rattle.std.proofs.Common.{◌≡◌, ◌≢◌, ◌+◌, ◌-◌, ◌<◌, ◌≤◌, ℕ, List, Bool, true, false, cond, arith, refl, sym, ◌∙◌, ap, inl, inr, subst, ◌⊎◌, Result, Ok, Err, nat_cmp, length, map, take, drop, slice_index, slice_index_or, slice_set}
use Rattle.std.specs.Prelude.{◌==◌, nat_le, nat_lt}
use Rattle.std.specs.List.{All, sum_by}
use Rattle.std.specs.List.Sorted.{IsBinarySearchResult, IsStrictlyIncreasing}
use Rattle.std.proofs.lemmas.Bool.{and_from, and_parts, cases_Bool, cases_eq, cases_lt, cond-false, cond-true, eqb-true, eq-eqb, le-leb, leb-true, lt-ltb, ltb-true}
use Rattle.std.proofs.lemmas.List.{get_or-drop, get_or_default, get_or-set_other, get_or-set_same, get_or-take, length-drop, length-take, take_all}
use Rattle.std.proofs.lemmas.List.FromFn.{fill_by_all}
use Rattle.std.proofs.lemmas.List.Kept.{AllPairs-from_increasing}
use Rattle.std.proofs.lemmas.List.Sorted.{searched}
use Rattle.std.proofs.lemmas.List.Sums.{sum_by_more, sum_by_more_le_part}
use Rattle.mh_core.specs.Records.{numbers}
use Rattle.mhlink_c.specs.Flows.{gives_for, has_need, no_link}
use Rattle.mhlink_c.specs.Problems.{HasNeeds, needs_of}
use Rattle.mh_network.specs.Laws.{member_is}
use Rattle.mh_network.specs.Selection.{Row, member}
use Rattle.mhlink_c.specs.declared.planning.MhlinkLink.{MhlinkLink}

-- what a row gives at each place is added at its own, and it gives nothing elsewhere
pub added : {X : Type 0} (f : ℕ → X → ℕ) (rows : List X) (i : ℕ) (d : X) (sums : List ℕ) (at amount : ℕ) → i < length rows → at < length sums → f at (slice_index_or rows i d) ≡ amount
    → ((k : ℕ) → k ≢ at → f k (slice_index_or rows i d) ≡ 0) → ((k : ℕ) → slice_index sums k ≡ sum_by (f k) (take i rows))
    → (k : ℕ) → slice_index (slice_set sums at (slice_index sums at + amount)) k ≡ sum_by (f k) (take (i + 1) rows)
added f rows i d sums at amount lt inside here elsewhere so_far k =
    let more : sum_by (f k) (take (i + 1) rows) ≡ sum_by (f k) (take i rows) + f k (slice_index_or rows i d) = sum_by_more (f k) rows i d lt in
    elim (cases_eq k at) [
      | inl same ↦
          let read : slice_index (slice_set sums at (slice_index sums at + amount)) k ≡ slice_index sums at + amount =
          ap (λ (n : ℕ). slice_index (slice_set sums at (slice_index sums at + amount)) n) same ∙ get_or-set_same sums at (slice_index sums at + amount) 0 inside in
          let own : f k (slice_index_or rows i d) ≡ amount = ap (λ (n : ℕ). f n (slice_index_or rows i d)) same ∙ here in
          let before : slice_index sums at ≡ sum_by (f k) (take i rows) = ap (slice_index sums) (sym same) ∙ so_far k in
          omega (arith, read, own, before, more)
      | inr other ↦
          let read : slice_index (slice_set sums at (slice_index sums at + amount)) k ≡ slice_index sums k =
          get_or-set_other sums at k (slice_index sums at + amount) 0 other in
          omega (arith, read, elsewhere k other, so_far k, more)
    ]

part_le : (b : Bool) (n : ℕ) → cond b n 0 ≤ n
part_le true n = omega arith
part_le false n = omega arith

-- what some of the rows give, and one more gives, is at most what all give
pub fits : {X : Type 0} (test : X → Bool) (amount : X → ℕ) (rows : List X) (i : ℕ) (d : X) (most : ℕ) → i < length rows → sum_by amount rows ≤ most
    → sum_by (λ r. cond (test r) (amount r) 0) (take i rows) + amount (slice_index_or rows i d) ≤ most
fits test amount rows i d most lt all =
    omega (arith, all, sum_by_more_le_part (λ r. cond (test r) (amount r) 0) amount rows i d lt (λ r. part_le (test r) (amount r)))

-- sums over all rows, by number
pub all_added : {X : Type 0} (f : ℕ → X → ℕ) (rows : List X) (i n : ℕ) (sums : List ℕ) → length rows ≤ i → length sums ≡ n → ((k : ℕ) → slice_index sums k ≡ sum_by (f k) (take i rows))
    → sums ≡ map (λ k. sum_by (f k) rows) (numbers n)
all_added f rows i n sums le long so_far =
    fill_by_all (λ k. sum_by (f k) rows) sums n 0 long (λ k lt. so_far k ∙ ap (sum_by (f k)) (take_all i rows le))

-- a place among some of a list
pub within : (xs : List ℕ) (first count i : ℕ) → first + count ≤ length xs → i < length (take count (drop first xs)) → (i < count) × (first + i < length xs) × (slice_index xs (first + i) ≡ slice_index (take count (drop first xs)) i)
within xs first count i room lt =
    let short : i < count = omega (arith, length-take count (drop first xs), lt) in
    (short, omega arith, sym (get_or-take count (drop first xs) i 0 short ∙ get_or-drop first xs i 0))

pub has_own : (l : MhlinkLink) (i : ℕ) → i < l.count → has_need l (l.first + i) ≡ true
has_own l i lt = and_from (nat_le l.first (l.first + i)) (nat_lt (l.first + i) (l.first + l.count)) (le-leb l.first (l.first + i) (omega arith)) (lt-ltb (l.first + i) (l.first + l.count) (omega arith))

-- a need of a link stands at one place of it alone
pub at_one_place : (needs : List ℕ) (l : MhlinkLink) (at k : ℕ) → HasNeeds needs l → IsStrictlyIncreasing (needs_of needs l) → has_need l at ≡ true → has_need l k ≡ true → slice_index needs k ≡ slice_index needs at → k ≡ at
at_one_place needs l at k room up own other same =
    let from = and_parts (nat_le l.first at) (nat_lt at (l.first + l.count)) own in
    let to = and_parts (nat_le l.first k) (nat_lt k (l.first + l.count)) other in
    let a = leb-true l.first at from.0 in
    let b = ltb-true at (l.first + l.count) from.1 in
    let c = leb-true l.first k to.0 in
    let d = ltb-true k (l.first + l.count) to.1 in
    let long : length (needs_of needs l) ≡ l.count = omega (arith, length-take l.count (drop l.first needs), length-drop l.first needs, room) in
    let one = within needs l.first l.count (at - l.first) room (omega arith) in
    let two = within needs l.first l.count (k - l.first) room (omega arith) in
    let at' : l.first + (at - l.first) ≡ at = omega arith in
    let k' : l.first + (k - l.first) ≡ k = omega arith in
    let x : slice_index needs at ≡ slice_index (needs_of needs l) (at - l.first) = ap (slice_index needs) (sym at') ∙ one.2 in
    let y : slice_index needs k ≡ slice_index (needs_of needs l) (k - l.first) = ap (slice_index needs) (sym k') ∙ two.2 in
    let apart = AllPairs-from_increasing (needs_of needs l) up in
    elim (cases_eq k at) [
      | inl e ↦ e
      | inr n ↦ elim (cases_lt k at) [
        | inl lt ↦ absurd (omega (arith, apart (k - l.first) (at - l.first) 0 (omega arith) (omega arith), x, y, same))
        | inr le ↦ absurd (omega (arith, apart (at - l.first) (k - l.first) 0 (omega (arith, n)) (omega arith), x, y, same))
      ]
    ]

-- a row gives for the need of its point at that one place
pub gives_here : (needs : List ℕ) (links : List MhlinkLink) (r : Row) (at : ℕ) → has_need (slice_index_or links r.0 no_link) at ≡ true → slice_index needs at ≡ r.1 → cond (gives_for needs links at r) r.2 0 ≡ r.2
gives_here needs links r at own point =
    cond-true (gives_for needs links at r) r.2 0 (and_from (has_need (slice_index_or links r.0 no_link) at) (slice_index needs at == r.1) own (eq-eqb (slice_index needs at) r.1 point))

pub gives_nowhere_else : (needs : List ℕ) (links : List MhlinkLink) (r : Row) (at k : ℕ) → HasNeeds needs (slice_index_or links r.0 no_link) → IsStrictlyIncreasing (needs_of needs (slice_index_or links r.0 no_link))
    → has_need (slice_index_or links r.0 no_link) at ≡ true → slice_index needs at ≡ r.1 → k ≢ at → cond (gives_for needs links k r) r.2 0 ≡ 0
gives_nowhere_else needs links r at k room up own point other =
    let l : MhlinkLink = slice_index_or links r.0 no_link in
    elim (cases_Bool (gives_for needs links k r)) [
      | inl gives ↦
          let both = and_parts (has_need l k) (slice_index needs k == r.1) gives in
          absurd (other (at_one_place needs l at k room up own both.0 (eqb-true (slice_index needs k) r.1 both.1 ∙ sym point)))
      | inr none ↦ cond-false (gives_for needs links k r) r.2 0 none
    ]

-- where a search of numbers that rise finds one that is there
pub found_at : (xs : List ℕ) (x : ℕ) (r : Result ℕ ℕ) (i : ℕ) → (r ≡ Ok i) ⊎ (r ≡ Err i) → IsBinarySearchResult (λ y. nat_cmp y x) xs r → IsStrictlyIncreasing xs → member xs x ≡ true → (i < length xs) × (slice_index xs i ≡ x)
found_at xs x r i is h up there =
    let pairs = AllPairs-from_increasing xs up in
    let rise : (a b : ℕ) → a ≤ b → b < length xs → slice_index xs a ≤ slice_index xs b = λ a b le lt. elim (cases_eq a b) [
      | inl e ↦ omega (arith, ap (slice_index xs) e)
      | inr n ↦ omega (arith, pairs a b 0 (omega (arith, n)) lt)
    ] in
    elim is [
      | inl ok ↦ searched xs x (Ok i) (subst (λ (s : Result ℕ ℕ). IsBinarySearchResult (λ y. nat_cmp y x) xs s) ok h) rise
      | inr err ↦
          let parted = searched xs x (Err i) (subst (λ (s : Result ℕ ℕ). IsBinarySearchResult (λ y. nat_cmp y x) xs s) err h) rise in
          let none : All (λ y. y ≡ x → ⊥) xs = λ k d lt same. elim (cases_lt k i) [
            | inl below ↦ omega (arith, parted.1 k below, get_or_default xs k d 0 lt, same)
            | inr above ↦ omega (arith, parted.2 k above lt, get_or_default xs k d 0 lt, same)
          ] in
          absurd (member_is (λ y. y ≡ x → ⊥) xs none x there refl)
    ]
