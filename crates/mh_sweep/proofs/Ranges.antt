-- The numbers below a bound, and the links that gain among them.
use Rattle.std.proofs.Common.{◌≡◌, ℕ, ◌+◌, ◌≤◌, ◌<◌, List, [], ◌∷◌, ◌++◌, Bool, true, false, cond, refl, arith, sym, ◌∙◌, ap, inl, inr, length}
use Rattle.std.specs.Prelude.{nat_lt}
use Rattle.std.specs.List.{filter, range_with_len}
use Rattle.std.specs.List.Sorted.{IsStrictlyIncreasing}
use Rattle.std.proofs.lemmas.Bool.{cases_lt, true≢false, lt-ltb, le-ltb, ltb-true}
use Rattle.std.proofs.lemmas.List.{append-nil, map-id, get_or_past}
use Rattle.std.proofs.lemmas.List.Elements.{filter-append}
use Rattle.std.proofs.lemmas.List.FromFn.{map-range_with_len_more, length-range_with_len, get_or-range_with_len}
use Rattle.std.proofs.lemmas.List.Kept.{IsStrictlyIncreasing-filter}
use Rattle.mh_network.specs.declared.part.Part.{Part}
use Rattle.mh_network.specs.Problems.{IsProblem, ProblemData, gain_of, link_at, no_link}
use Rattle.mh_network.specs.Blocks.{BlocksSplit, BlocksSolve, gaining_links}
use Rattle.mh_network.specs.Scales.{net_gain, net_of}
use Rattle.mh_network.specs.Selection.{member}
use Rattle.mh_network.specs.Laws.Members.{same_answer}
use Rattle.mh_sweep.specs.Sweeps.{IsOpen}
use Rattle.mh_sweep.proofs.Amounts.{net_is}
use Rattle.mh_sweep.proofs.Halves.{of_both, to_both}
use Rattle.mh_sweep.proofs.Numbering.{num, member_found, place_in}
use Rattle.mh_network.specs.Parts.{place_of}

pub range_more : (n : ℕ) → range_with_len 0 (n + 1) ≡ range_with_len 0 n ++ n ∷ []
range_more n =
    sym (map-id (range_with_len 0 (n + 1))) ∙ (map-range_with_len_more (λ (x : ℕ). x) 0 n n (omega arith) ∙ ap (λ (xs : List ℕ). xs ++ n ∷ []) (map-id (range_with_len 0 n)))

-- one more number passes, or does not
pub range_passed : (p : ℕ → Bool) (n : ℕ) (old new : List ℕ) → p n ≡ true → old ≡ filter p (range_with_len 0 n) → new ≡ old ++ n ∷ [] → new ≡ filter p (range_with_len 0 (n + 1))
range_passed p n old new here before more =
    more ∙ ((λ k. before k ++ cond (sym here k) (n ∷ []) []) ∙ (sym (filter-append p (range_with_len 0 n) (n ∷ [])) ∙ ap (filter p) (sym (range_more n))))

pub range_failed : (p : ℕ → Bool) (n : ℕ) (old new : List ℕ) → p n ≡ false → old ≡ filter p (range_with_len 0 n) → new ≡ old → new ≡ filter p (range_with_len 0 (n + 1))
range_failed p n old new here before same =
    same ∙ (before ∙ (sym (append-nil (filter p (range_with_len 0 n))) ∙ ((λ k. filter p (range_with_len 0 n) ++ cond (sym here k) (n ∷ []) [])
    ∙ (sym (filter-append p (range_with_len 0 n) (n ∷ [])) ∙ ap (filter p) (sym (range_more n))))))

-- a link gains where its gain is above its charge
pub gains_above : (P : ProblemData) → IsProblem P → (j : ℕ) → (link_at P j).charge < gain_of P j → gaining_links P j ≡ true
gains_above P problem j l = lt-ltb 0 (net_of P j) (omega (arith, l, net_is P problem j))

pub gains_not : (P : ProblemData) → IsProblem P → (j : ℕ) → gain_of P j ≤ (link_at P j).charge → gaining_links P j ≡ false
gains_not P problem j l = le-ltb 0 (net_of P j) (omega (arith, l, net_is P problem j))

range_at : (n k : ℕ) → k < n → num (range_with_len 0 n) k ≡ k
range_at n k l =
    let zero : 0 + k ≡ k = omega arith in
    get_or-range_with_len 0 n k 0 l ∙ zero

rising : (n : ℕ) → IsStrictlyIncreasing (range_with_len 0 n)
rising n k l =
    let short : k + 1 < n = omega (arith, l, length-range_with_len 0 n) in
    omega (arith, range_at n k (omega (arith, short)), range_at n (k + 1) short)

-- the members of a range are the numbers below its bound
pub range_member : (n j : ℕ) → member (range_with_len 0 n) j ≡ nat_lt j n
range_member n j =
    same_answer (member (range_with_len 0 n) j) (nat_lt j n)
    (λ e.
    let there = place_in (range_with_len 0 n) j e in
    let below : place_of (range_with_len 0 n) j < n = omega (arith, there.0, length-range_with_len 0 n) in
    lt-ltb j n (omega (arith, below, range_at n (place_of (range_with_len 0 n) j) below, there.1)))
    (λ e.
    let below : j < n = ltb-true j n e in
    member_found (range_with_len 0 n) j j (omega (arith, below, length-range_with_len 0 n)) (range_at n j below))

-- a link that gains is one of the problem
gaining_inside : (P : ProblemData) (j : ℕ) → gaining_links P j ≡ true → j < length P.links
gaining_inside P j e = elim (cases_lt j (length P.links)) [
  | inl l ↦ l
  | inr past ↦
      let nothing : net_of P j ≡ 0 = ap net_gain (get_or_past P.links j no_link past) in
      absurd (omega (arith, ltb-true 0 (net_of P j) e, nothing))
]

pub filtered_range : (P : ProblemData) (j : ℕ) → member (filter (gaining_links P) (range_with_len 0 (length P.links))) j ≡ gaining_links P j
filtered_range P j =
    same_answer (member (filter (gaining_links P) (range_with_len 0 (length P.links))) j) (gaining_links P j)
    (λ e. (of_both (gaining_links P) (range_with_len 0 (length P.links)) j e).0)
    (λ e. to_both (gaining_links P) (range_with_len 0 (length P.links)) j e (range_member (length P.links) j ∙ lt-ltb j (length P.links) (gaining_inside P j e)))

-- the block of all links that gain and all points is open between no costs and a scale past the most
pub whole_open : (P : ProblemData) → BlocksSplit P → BlocksSolve P → (last : ℕ) (part : Part) → part.links ≡ filter (gaining_links P) (range_with_len 0 (length P.links)) → part.points ≡ range_with_len 0 (length P.costs) →
    IsOpen P 0 last part (gaining_links P) (λ _. false)
whole_open P split solve last part links points = record {
  least = solve.free;
  end = inr (λ j. refl);
  within = λ j e. absurd (true≢false (sym e));
  block = split.first part
      (rw links (IsStrictlyIncreasing-filter (gaining_links P) (range_with_len 0 (length P.links)) (rising (length P.links))))
      (rw points (rising (length P.costs)))
      (λ j. ap (λ (xs : List ℕ). member xs j) links ∙ filtered_range P j)
      (λ p. ap (λ (xs : List ℕ). member xs p) points ∙ range_member (length P.costs) p);
}
