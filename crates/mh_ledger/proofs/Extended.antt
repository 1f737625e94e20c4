-- Totals and ledgers of more links.
use Rattle.std.proofs.Common.{◌≡◌, ℕ, ◌+◌, ◌<◌, ◌≤◌, ◌^◌, List, [], length, map, slice_index_or, ap, sym, subst, ◌∙◌, arith, inl, inr}
use Rattle.std.specs.List.{All, sum_by}
use Rattle.std.proofs.lemmas.Bool.{cases_lt}
use Rattle.std.proofs.lemmas.Grind.{get_or_default_zero}
use Rattle.std.proofs.lemmas.List.{get_or-map, get_or_past, length-map}
use Rattle.std.proofs.lemmas.List.Folds.{fold-map}
use Rattle.std.proofs.lemmas.List.Sums.{sum_by-le-sum_by}
use Rattle.mh_ledger.specs.Ledgers.{at, ledger_at, no_ledger, share_of, AreHeld, Holds, IsLedger, IsTotals, LedgerState, TotalsState}
use Rattle.mh_ledger.specs.Extensions.{extended_ledger, extended_totals, longer}
use Rattle.mh_ledger.specs.Laws.Extensions.{at-longer, length-longer}

pub all_longer : (more limit : ℕ) (xs : List ℕ) → All (λ n. n ≤ limit) xs → All (λ n. n ≤ limit) (longer more xs)
all_longer more limit xs all k e inside =
    let read : slice_index_or (longer more xs) k e ≡ at (longer more xs) k = get_or_default_zero (longer more xs) k e inside in
    let same = at-longer more xs k in
    elim (cases_lt k (length xs)) [
      | inl known ↦ let bound : at xs k ≤ limit = all k 0 known in omega (arith, read, same, bound)
      | inr past ↦ let none : at xs k ≡ 0 = get_or_past xs k 0 past in omega (arith, read, same, none)
    ]

same_sums : (more j : ℕ) (shares : List (List ℕ)) → sum_by (λ share. at share j) (map (longer more) shares) ≡ sum_by (λ share. at share j) shares
same_sums more j shares =
    let f : List ℕ → ℕ = λ share. at (longer more share) j in
    let g : List ℕ → ℕ = λ share. at share j in
    let there = sum_by-le-sum_by f g shares (λ share. let same = at-longer more share j in omega (arith, same)) in
    let back = sum_by-le-sum_by g f shares (λ share. let same = at-longer more share j in omega (arith, same)) in
    let mapped : sum_by g (map (longer more) shares) ≡ sum_by f shares = fold-map (λ a share. a + at share j) (longer more) 0 shares in
    omega (arith, there, back, mapped)

pub extended_sound : (more : ℕ) (t : TotalsState) → IsTotals t → IsTotals (extended_totals more t)
extended_sound more t is = record {
  lengths = λ w e inside.
      let known : w < length t.shares = omega (arith, inside, length-map t.shares (longer more)) in
      let own : slice_index_or (map (longer more) t.shares) w e ≡ longer more (share_of t w) = get_or-map (longer more) t.shares w [] e known in
      let was : length (share_of t w) ≡ length t.total = is.lengths w [] known in
      let count = length-longer more (share_of t w) in
      let all = length-longer more t.total in
      ap length own ∙ omega (arith, was, count, all);
  sums = λ j. at-longer more t.total j ∙ (is.sums j ∙ sym (same_sums more j t.shares));
  within = all_longer more t.limit t.total is.within;
  limit = is.limit;
}

pub extended_ledger_sound : (more : ℕ) (l : LedgerState) → IsLedger l → IsLedger (extended_ledger more l)
extended_ledger_sound more l is = record {
  lengths = let flushed = length-longer more l.flushed in let unflushed = length-longer more l.unflushed in omega (arith, flushed, unflushed, is.lengths);
  unflushed = all_longer more l.limit l.unflushed is.unflushed;
  flushed = all_longer more (2 ^ 62) l.flushed is.flushed;
  limit = is.limit;
}

pub extended_held : (more : ℕ) (t : TotalsState) (ledgers : List LedgerState) → AreHeld t ledgers → AreHeld (extended_totals more t) (map (extended_ledger more) ledgers)
extended_held more t ledgers are =
    let after = extended_ledger more in
    let count : length (map after ledgers) ≡ length ledgers = length-map ledgers after in
    let shares : length (map (longer more) t.shares) ≡ length t.shares = length-map t.shares (longer more) in
    let each : (w : ℕ) → w < length ledgers → ledger_at (map after ledgers) w ≡ after (ledger_at ledgers w) = λ w inside. get_or-map after ledgers w no_ledger no_ledger inside in
    record {
      count = count ∙ (are.count ∙ sym shares);
      workers = λ w within. let inside : w < length ledgers = omega (arith, within, count) in ap (λ (l : LedgerState). l.worker) (each w inside) ∙ are.workers w inside;
      held = λ w within.
          let inside : w < length ledgers = omega (arith, within, count) in
          let held = are.held w inside in
          let there : Holds (extended_totals more t) (after (ledger_at ledgers w)) =
          (omega (arith, held.0, shares), get_or-map (longer more) t.shares (ledger_at ledgers w).worker [] [] held.0 ∙ ap (longer more) held.1) in
          subst (Holds (extended_totals more t)) (sym (each w inside)) there;
    }

-- as totals are seen, of the parts that they are made of
abbrev the_totals : ℕ → List ℕ → List (List ℕ) → TotalsState
the_totals limit total shares = record { limit = limit; total = total; shares = shares }

pub made_totals : (more : ℕ) (t : TotalsState) (limit : ℕ) (total : List ℕ) (shares : List (List ℕ)) → limit ≡ t.limit → total ≡ longer more t.total → shares ≡ map (longer more) t.shares
    → the_totals limit total shares ≡ extended_totals more t
made_totals more t limit total shares same sums parts =
    ap (λ (n : ℕ). the_totals n total shares) same
    ∙ (ap (λ (x : List ℕ). the_totals t.limit x shares) sums ∙ ap (λ (x : List (List ℕ)). the_totals t.limit (longer more t.total) x) parts)
