-- The counts of a worker's ledger for each link, as the counters of the entries of an inline cache (Hölzle, Chambers, Ungar 1991), and the
-- totals of all workers.
use Rattle.std.specs.Prelude.{ℕ, ◌+◌, ◌≡◌, ◌<◌, ◌≤◌, List, [], ◌∷◌, length, replicate, slice_index_or, slice_set, map}
use Rattle.std.specs.List.{All, sum_by}
use Rattle.mh_ledger.specs.Limits.{greatest_limit}
use Rattle.mh_ledger.specs.declared.totals.Totals.TheInside.{Inside}

-- the number at an index
abbrev pub at : List ℕ → ℕ → ℕ
at counts j = slice_index_or counts j 0

-- the worker's number, the limit of unflushed hits of a link, and for each link the unflushed and the flushed hits
pub record LedgerState : Type 0 where
  pub worker : ℕ
  pub limit : ℕ
  pub unflushed : List ℕ
  pub flushed : List ℕ

-- all hits of a link ever
abbrev pub made : LedgerState → ℕ → ℕ
made l j = at l.flushed j + at l.unflushed j

-- the limit of a total, the total of each link, and for each worker the hits that it flushed of each link
pub record TotalsState : Type 0 where
  pub limit : ℕ
  pub total : List ℕ
  pub shares : List (List ℕ)

-- the hits that a worker flushed
abbrev pub share_of : TotalsState → ℕ → List ℕ
share_of t w = slice_index_or t.shares w []

-- the totals keep for the ledger's worker exactly the hits that the ledger flushed
abbrev pub Holds : TotalsState → LedgerState → Type 0
Holds t l = (l.worker < length t.shares) × (share_of t l.worker ≡ l.flushed)

abbrev pub no_ledger : LedgerState
no_ledger = record { worker = 0; limit = 0; unflushed = []; flushed = [] }

abbrev pub ledger_at : List LedgerState → ℕ → LedgerState
ledger_at ledgers w = slice_index_or ledgers w no_ledger

-- one held ledger of each worker, in their order
pub record AreHeld (t : TotalsState) (ledgers : List LedgerState) : Type 0 where
  pub count : length ledgers ≡ length t.shares
  pub workers : (w : ℕ) → w < length ledgers → (ledger_at ledgers w).worker ≡ w
  pub held : (w : ℕ) → w < length ledgers → Holds t (ledger_at ledgers w)

-- a ledger within the limits
pub record IsLedger (l : LedgerState) : Type 0 where
  pub lengths : length l.flushed ≡ length l.unflushed
  pub unflushed : All (λ n. n ≤ l.limit) l.unflushed
  pub flushed : All (λ n. n ≤ greatest_limit) l.flushed
  pub limit : l.limit ≤ greatest_limit

-- each total is the sum of the shares, within the limit
pub record IsTotals (t : TotalsState) : Type 0 where
  pub lengths : All (λ share. length share ≡ length t.total) t.shares
  pub sums : (j : ℕ) → at t.total j ≡ sum_by (λ share. at share j) t.shares
  pub within : All (λ n. n ≤ t.limit) t.total
  pub limit : t.limit ≤ greatest_limit

-- a ledger before any hit
abbrev pub opened_ledger : ℕ → ℕ → ℕ → LedgerState
opened_ledger links limit w = record { worker = w; limit = limit; unflushed = replicate links 0; flushed = replicate links 0 }

abbrev pub opened_totals : ℕ → ℕ → ℕ → TotalsState
opened_totals links workers limit = record { limit = limit; total = replicate links 0; shares = replicate workers (replicate links 0) }

-- one more hit of a link
abbrev pub with_hit : LedgerState → ℕ → LedgerState
with_hit l j = record { worker = l.worker; limit = l.limit; unflushed = slice_set l.unflushed j (at l.unflushed j + 1); flushed = l.flushed }

-- the list with, at each index, the sum of both numbers
abbrev pub added : List ℕ → List ℕ → List ℕ
added [] ys = []
added (x ∷ xs) [] = x ∷ xs
added (x ∷ xs) (y ∷ ys) = (x + y) ∷ added xs ys

-- a ledger after its flush
abbrev pub settled : LedgerState → LedgerState
settled l = record { worker = l.worker; limit = l.limit; unflushed = replicate (length l.unflushed) 0; flushed = added l.flushed l.unflushed }

-- no total would exceed the limit by the flush of this ledger
abbrev pub FlushFits : TotalsState → LedgerState → Type 0
FlushFits t l = (j : ℕ) → j < length t.total → at t.total j + at l.unflushed j ≤ t.limit

-- the totals after the flush of this ledger
abbrev pub flushed_into : TotalsState → LedgerState → TotalsState
flushed_into t l = record { limit = t.limit; total = added t.total l.unflushed; shares = slice_set t.shares l.worker (added (share_of t l.worker) l.unflushed) }

-- totals as plain data
abbrev pub totals_state : Inside → TotalsState
totals_state t = record { limit = t.limit; total = t.totals.items; shares = map (λ share. share.items) t.shares.items }
