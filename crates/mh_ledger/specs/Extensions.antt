-- Hits if there are more links than before, which no worker has hit.
use Rattle.std.specs.Prelude.{ℕ, ◌++◌, List, map, replicate}
use Rattle.mh_ledger.specs.Ledgers.{LedgerState, TotalsState}

-- the numbers, followed by zeros for more links
abbrev pub longer : ℕ → List ℕ → List ℕ
longer more counts = counts ++ replicate more 0

abbrev pub extended_ledger : ℕ → LedgerState → LedgerState
extended_ledger more l = record { worker = l.worker; limit = l.limit; unflushed = longer more l.unflushed; flushed = longer more l.flushed }

abbrev pub extended_totals : ℕ → TotalsState → TotalsState
extended_totals more t = record { limit = t.limit; total = longer more t.total; shares = map (longer more) t.shares }
