-- Hits that were counted and flushed earlier: they count as flushed by the first worker.
use Rattle.std.specs.Prelude.{ℕ, ◌==◌, List, length, map, replicate, if◌then◌else◌}
use Rattle.std.specs.List.{range_with_len}
use Rattle.mh_ledger.specs.Ledgers.{LedgerState, TotalsState}

-- the hits of these that a worker has flushed
abbrev pub share_of_worker : List ℕ → ℕ → List ℕ
share_of_worker hits w = if w == 0 then hits else replicate (length hits) 0

-- a worker's ledger, in which nothing is unflushed
abbrev pub resumed_ledger : List ℕ → ℕ → ℕ → LedgerState
resumed_ledger hits limit w = record { worker = w; limit = limit; unflushed = replicate (length hits) 0; flushed = share_of_worker hits w }

-- the hits as totals
abbrev pub resumed_totals : List ℕ → ℕ → ℕ → TotalsState
resumed_totals hits workers limit = record { limit = limit; total = hits; shares = map (share_of_worker hits) (range_with_len 0 workers) }
