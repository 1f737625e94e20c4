-- The hits that are kept at the beginning of a new history.
use Rattle.std.specs.Prelude.{ℕ, ◌/◌, List, length, map}
use Rattle.std.specs.List.{range_with_len, sum_by}
use Rattle.mh_ledger.specs.declared.old_hits.OldHits.{OldHits}
use Rattle.mh_ledger.specs.declared.old_hits.OldHits.TheVariants.{Keep, Drop, Halve}
use Rattle.mh_ledger.specs.Ledgers.{at, LedgerState, TotalsState}

-- how many of a number of hits of a worker are kept
abbrev pub left_of : OldHits → ℕ → ℕ
left_of Keep n = n
left_of Drop n = 0
left_of Halve n = n / 2

-- the ledger with the part of its flushed hits that is kept; unflushed hits are not changed
abbrev pub renewed_ledger : OldHits → LedgerState → LedgerState
renewed_ledger h l = record { worker = l.worker; limit = l.limit; unflushed = l.unflushed; flushed = map (left_of h) l.flushed }

-- the part of each worker's share that is kept
abbrev pub renewed_shares : OldHits → TotalsState → List (List ℕ)
renewed_shares h t = map (map (left_of h)) t.shares

-- each total is the sum of the parts of the shares that are kept
abbrev pub renewed_totals : OldHits → TotalsState → TotalsState
renewed_totals h t = record {
  limit = t.limit;
  total = map (λ j. sum_by (λ share. at share j) (renewed_shares h t)) (range_with_len 0 (length t.total));
  shares = renewed_shares h t;
}
