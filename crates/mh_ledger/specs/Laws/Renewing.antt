-- Keeping a part of the hits preserves the invariants of totals and ledgers.
use Rattle.std.proofs.Common.{◌≡◌, ℕ, zero, suc, ◌+◌, ◌<◌, ◌≤◌, ◌/◌, List, [], ◌∷◌, length, map, slice_set, slice_index_or, ◌^◌, refl, ap, sym, subst, ◌∙◌, arith, ◌⊎◌, inl, inr}
use Rattle.std.proofs.Math.Nat.{div-le_self}
use Rattle.std.proofs.lemmas.Bool.{cases_lt}
use Rattle.std.proofs.lemmas.Grind.{get_or_default_zero}
use Rattle.std.proofs.lemmas.List.{ext_get_or, get_or-map, length-map, get_or_past}
use Rattle.std.proofs.lemmas.List.Elements.{All-set}
use Rattle.std.proofs.lemmas.List.Folds.{fold-map}
use Rattle.std.proofs.lemmas.List.FromFn.{get_or-map-range_with_len, length-map-range_with_len}
use Rattle.std.proofs.lemmas.List.Sums.{sum_by-set, sum_by-le-sum_by, get_or-le-sum_by}
use Rattle.std.specs.List.{All, range_with_len, sum_by}
use Rattle.mh_ledger.specs.declared.old_hits.OldHits.{OldHits}
use Rattle.mh_ledger.specs.declared.old_hits.OldHits.TheVariants.{Keep, Drop, Halve}
use Rattle.mh_ledger.specs.Ledgers.{at, added, ledger_at, no_ledger, share_of, AreHeld, Holds, IsLedger, IsTotals, LedgerState, TotalsState}
use Rattle.mh_ledger.specs.Laws.Added.{length-added, at-added, all_added}
use Rattle.mh_ledger.specs.Renewals.{left_of, renewed_ledger, renewed_shares, renewed_totals}

pub left_most : (h : OldHits) (n : ℕ) → left_of h n ≤ n
left_most Keep n = omega arith
left_most Drop n = omega arith
left_most Halve n = div-le_self n 2

pub left_none : (h : OldHits) → left_of h 0 ≡ 0
left_none Keep = refl
left_none Drop = refl
left_none Halve = refl

pub at-left : (h : OldHits) (xs : List ℕ) (j : ℕ) → at (map (left_of h) xs) j ≡ left_of h (at xs j)
at-left h [] j = sym (left_none h)
at-left h (x ∷ xs) zero = refl
at-left h (x ∷ xs) (suc j) = at-left h xs j

pub left_bounded : (h : OldHits) (xs : List ℕ) (limit : ℕ) → All (λ n. n ≤ limit) xs → All (λ n. n ≤ limit) (map (left_of h) xs)
left_bounded h xs limit all k d inside =
    let same : slice_index_or (map (left_of h) xs) k d ≡ at (map (left_of h) xs) k = get_or_default_zero (map (left_of h) xs) k d inside in
    let left = at-left h xs k in
    let most = left_most h (at xs k) in
    let bound : at xs k ≤ limit = all k 0 (omega (arith, inside, length-map xs (left_of h))) in
    omega arith

pub renewed_ledger_sound : (h : OldHits) (l : LedgerState) → IsLedger l → IsLedger (renewed_ledger h l)
renewed_ledger_sound h l is = record {
  lengths = length-map l.flushed (left_of h) ∙ is.lengths;
  unflushed = is.unflushed;
  flushed = left_bounded h l.flushed (2 ^ 62) is.flushed;
  limit = is.limit;
}

-- a share is within the totals, and so within the limit
pub share_within : (t : TotalsState) (w : ℕ) → IsTotals t → w < length t.shares → (j : ℕ) → at (share_of t w) j ≤ at t.total j
share_within t w is inside j =
    let part = get_or-le-sum_by (λ share. at share j) t.shares w [] inside in
    let whole = is.sums j in
    omega (arith, part, whole)

pub share_bounded : (t : TotalsState) (w : ℕ) → IsTotals t → w < length t.shares → All (λ n. n ≤ 2 ^ 62) (share_of t w)
share_bounded t w is inside k d within =
    let same : slice_index_or (share_of t w) k d ≡ at (share_of t w) k = get_or_default_zero (share_of t w) k d within in
    let part = share_within t w is inside k in
    let bound : at t.total k ≤ t.limit = is.within k 0 (omega (arith, within, is.lengths w [] inside)) in
    let limit = is.limit in
    omega (arith, same, part, bound, limit)

-- one share is reduced, and the totals with it
abbrev pub lessened : OldHits → TotalsState → ℕ → List ℕ → TotalsState
lessened h t w total = record { limit = t.limit; total = total; shares = slice_set t.shares w (map (left_of h) (share_of t w)) }

module _ (h : OldHits) (t : TotalsState) (w : ℕ) (rest : List ℕ) (is : IsTotals t) (inside : w < length t.shares) (count : length rest ≡ length t.total) (parts : (j : ℕ) → at rest j + at (share_of t w) j ≡ at t.total j) where
  abbrev left_share : List ℕ
  left_share = map (left_of h) (share_of t w)

  same_length : length rest ≡ length left_share
  same_length = count ∙ (sym (is.lengths w [] inside) ∙ sym (length-map (share_of t w) (left_of h)))

  lessened_at : (j : ℕ) → at (added rest left_share) j ≡ at rest j + left_of h (at (share_of t w) j)
  lessened_at j =
      let sum = at-added rest left_share j same_length in
      let left = at-left h (share_of t w) j in
      omega (arith, sum, left)

  lessened_sum : (j : ℕ) → at (added rest left_share) j ≡ sum_by (λ share. at share j) (slice_set t.shares w left_share)
  lessened_sum j =
      let sum = at-added rest left_share j same_length in
      let moved = sum_by-set (λ share. at share j) t.shares w left_share [] inside in
      let whole = is.sums j in
      let part = parts j in
      omega (arith, sum, moved, whole, part)

  lessened_within : (j : ℕ) → j < length rest → at rest j + at left_share j ≤ t.limit
  lessened_within j within =
      let left = at-left h (share_of t w) j in
      let most = left_most h (at (share_of t w) j) in
      let part = parts j in
      let bound : at t.total j ≤ t.limit = is.within j 0 (omega (arith, within, count)) in
      omega (arith, left, most, part, bound)

  pub lessened_sound : IsTotals (lessened h t w (added rest (map (left_of h) (share_of t w))))
  lessened_sound =
      let total = length-added rest left_share in
      record {
        lengths = All-set (λ share. length share ≡ length (added rest left_share)) t.shares w left_share (sym same_length ∙ sym total)
            (λ k d within. is.lengths k d within ∙ (sym count ∙ sym total));
        sums = lessened_sum;
        within = all_added rest left_share t.limit same_length lessened_within;
        limit = is.limit;
      }

abbrev the_ledger : LedgerState → List ℕ → LedgerState
the_ledger l flushed = record { worker = l.worker; limit = l.limit; unflushed = l.unflushed; flushed = flushed }

abbrev pub the_totals : ℕ → List ℕ → List (List ℕ) → TotalsState
the_totals limit total shares = record { limit = limit; total = total; shares = shares }

-- the totals once each share is reduced
pub all_lessened : (h : OldHits) (t new : TotalsState) → IsTotals new → new.limit ≡ t.limit → length new.total ≡ length t.total → length new.shares ≡ length t.shares
    → ((w : ℕ) → w < length t.shares → share_of new w ≡ map (left_of h) (share_of t w)) → new ≡ renewed_totals h t
all_lessened h t new is limit links count each =
    let left : List ℕ → List ℕ = map (left_of h) in
    let shares : new.shares ≡ renewed_shares h t =
    ext_get_or [] _ _ (count ∙ sym (length-map t.shares left))
    (λ w inside. each w (omega (arith, inside, count)) ∙ sym (get_or-map left t.shares w [] [] (omega (arith, inside, count)))) in
    let sum : ℕ → ℕ = λ j. sum_by (λ share. at share j) (renewed_shares h t) in
    let total : new.total ≡ map sum (range_with_len 0 (length t.total)) =
    ext_get_or 0 _ _ (links ∙ sym (length-map-range_with_len sum 0 (length t.total)))
    (λ j inside. is.sums j ∙ (ap (sum_by (λ share. at share j)) shares ∙ sym (get_or-map-range_with_len sum 0 (length t.total) j j 0 (omega (arith, inside, links)) (omega arith)))) in
    ap (λ (n : ℕ). the_totals n new.total new.shares) limit
    ∙ (ap (λ (sums : List ℕ). the_totals t.limit sums new.shares) total
    ∙ ap (λ (parts : List (List ℕ)). the_totals t.limit (map sum (range_with_len 0 (length t.total))) parts) shares)

all_kept : (xs : List ℕ) → map (left_of Keep) xs ≡ xs
all_kept [] = refl
all_kept (x ∷ xs) = ap (λ (rest : List ℕ). x ∷ rest) (all_kept xs)

-- if all hits are kept, nothing changes
pub kept_totals : (t : TotalsState) → IsTotals t → renewed_totals Keep t ≡ t
kept_totals t is = sym (all_lessened Keep t t is refl refl refl (λ w inside. sym (all_kept (share_of t w))))

pub kept_ledger : (l : LedgerState) → renewed_ledger Keep l ≡ l
kept_ledger l = ap (λ (flushed : List ℕ). the_ledger l flushed) (all_kept l.flushed)

pub kept_ledgers : (ledgers : List LedgerState) → map (renewed_ledger Keep) ledgers ≡ ledgers
kept_ledgers [] = refl
kept_ledgers (l ∷ ledgers) = ap (λ (x : LedgerState). x ∷ map (renewed_ledger Keep) ledgers) (kept_ledger l) ∙ ap (λ (rest : List LedgerState). l ∷ rest) (kept_ledgers ledgers)

same_sums : (h : OldHits) (j : ℕ) (shares : List (List ℕ)) → sum_by (λ share. at (map (left_of h) share) j) shares ≡ sum_by (λ share. left_of h (at share j)) shares
same_sums h j shares =
    let f : List ℕ → ℕ = λ share. at (map (left_of h) share) j in
    let g : List ℕ → ℕ = λ share. left_of h (at share j) in
    let there = sum_by-le-sum_by f g shares (λ share. let same = at-left h share j in omega (arith, same)) in
    let back = sum_by-le-sum_by g f shares (λ share. let same = at-left h share j in omega (arith, same)) in
    omega (arith, there, back)

inner_total : (h : OldHits) (t : TotalsState) (j : ℕ) → j < length t.total → at (renewed_totals h t).total j ≡ sum_by (λ share. left_of h (at share j)) t.shares
inner_total h t j inside =
    get_or-map-range_with_len (λ i. sum_by (λ share. at share i) (renewed_shares h t)) 0 (length t.total) j j 0 inside (omega arith)
    ∙ (fold-map (λ a share. a + at share j) (map (left_of h)) 0 t.shares ∙ same_sums h j t.shares)

outer_total : (h : OldHits) (t : TotalsState) (j : ℕ) → IsTotals t → length t.total ≤ j → at (renewed_totals h t).total j ≡ sum_by (λ share. left_of h (at share j)) t.shares
outer_total h t j is past =
    let new : at (renewed_totals h t).total j ≡ 0 = get_or_past (renewed_totals h t).total j 0 (omega (arith, past, length-map-range_with_len (λ i. sum_by (λ share. at share i) (renewed_shares h t)) 0 (length t.total))) in
    let old : at t.total j ≡ 0 = get_or_past t.total j 0 past in
    let whole = is.sums j in
    let most = sum_by-le-sum_by (λ share. left_of h (at share j)) (λ share. at share j) t.shares (λ share. left_most h (at share j)) in
    omega (arith, new, old, whole, most)

-- the total of a link
pub left_total : (h : OldHits) (t : TotalsState) → IsTotals t → (j : ℕ) → at (renewed_totals h t).total j ≡ sum_by (λ share. left_of h (at share j)) t.shares
left_total h t is j = elim (cases_lt j (length t.total)) as (λ _. at (renewed_totals h t).total j ≡ sum_by (λ share. left_of h (at share j)) t.shares) [ inl inside ↦ inner_total h t j inside | inr past ↦ outer_total h t j is past ]

-- held ledgers stay held
pub renewed_held : (h : OldHits) (t : TotalsState) (ledgers : List LedgerState) → AreHeld t ledgers → AreHeld (renewed_totals h t) (map (renewed_ledger h) ledgers)
renewed_held h t ledgers are =
    let after = renewed_ledger h in
    let left : List ℕ → List ℕ = map (left_of h) in
    let count : length (map after ledgers) ≡ length ledgers = length-map ledgers after in
    let shares : length (renewed_shares h t) ≡ length t.shares = length-map t.shares left in
    let each : (w : ℕ) → w < length ledgers → ledger_at (map after ledgers) w ≡ after (ledger_at ledgers w) = λ w inside. get_or-map after ledgers w no_ledger no_ledger inside in
    record {
      count = count ∙ (are.count ∙ sym shares);
      workers = λ w within. let inside : w < length ledgers = omega (arith, within, count) in ap (λ l. l.worker) (each w inside) ∙ are.workers w inside;
      held = λ w within.
          let inside : w < length ledgers = omega (arith, within, count) in
          let held = are.held w inside in
          let there : Holds (renewed_totals h t) (after (ledger_at ledgers w)) =
          (omega (arith, held.0, shares), get_or-map left t.shares (ledger_at ledgers w).worker [] [] held.0 ∙ ap left held.1) in
          subst (Holds (renewed_totals h t)) (sym (each w inside)) there;
    }
