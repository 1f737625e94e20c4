-- Which ledgers the totals hold.
use Rattle.std.proofs.Common.{◌≡◌, ℕ, ◌+◌, ◌<◌, List, [], length, map, ap, sym, ◌∙◌, arith, subst}
use Rattle.std.proofs.lemmas.List.{get_or-replicate, length-replicate, ext_get_or, get_or-map, length-map}
use Rattle.std.proofs.lemmas.List.FromFn.{get_or-map-range_with_len, length-map-range_with_len}
use Rattle.std.proofs.lemmas.List.Folds.{fold-map}
use Rattle.std.specs.List.{sum_by, range_with_len}
use Rattle.mh_ledger.specs.Ledgers.{at, ledger_at, no_ledger, share_of, opened_ledger, opened_totals, AreHeld, Holds, IsTotals, LedgerState, TotalsState}

flushed_lists : (t : TotalsState) (ledgers : List LedgerState) → AreHeld t ledgers → map (λ l. l.flushed) ledgers ≡ t.shares
flushed_lists t ledgers are =
    let count = length-map ledgers (λ l. l.flushed) in
    ext_get_or [] _ _ (count ∙ are.count) (λ w in'.
    let inside : w < length ledgers = omega (arith, in', count) in
    let held = (are.held w inside).1 in
    get_or-map (λ l. l.flushed) ledgers w no_ledger [] inside ∙ (sym held ∙ ap (share_of t) (are.workers w inside)))

-- one held ledger of each worker knows the totals
pub held_sum : (t : TotalsState) (ledgers : List LedgerState) (j : ℕ) → IsTotals t → AreHeld t ledgers → at t.total j ≡ sum_by (λ l. at l.flushed j) ledgers
held_sum t ledgers j is are =
    is.sums j ∙ (ap (sum_by (λ share. at share j)) (sym (flushed_lists t ledgers are)) ∙ fold-map (λ a share. a + at share j) (λ l. l.flushed) 0 ledgers)

-- before any hit
pub opened_held : (links workers limit total : ℕ) → AreHeld (opened_totals links workers total) (map (opened_ledger links limit) (range_with_len 0 workers))
opened_held links workers limit total =
    let count = length-map-range_with_len (opened_ledger links limit) 0 workers in
    let shares : length (opened_totals links workers total).shares ≡ workers = length-replicate workers _ in
    let opened : (w : ℕ) → w < workers → ledger_at (map (opened_ledger links limit) (range_with_len 0 workers)) w ≡ opened_ledger links limit w =
    λ w in'. get_or-map-range_with_len (opened_ledger links limit) 0 workers w w no_ledger in' (omega arith) in
    record {
      count = count ∙ sym shares;
      workers = λ w in'. ap (λ l. l.worker) (opened w (omega (arith, in', count)));
      held = λ w in'. subst (Holds (opened_totals links workers total)) (sym (opened w (omega (arith, in', count)))) (omega (arith, in', count, shares), get_or-replicate workers w _ [] (omega (arith, in', count)));
    }
