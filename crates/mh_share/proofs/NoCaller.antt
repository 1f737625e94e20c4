-- What stands where there is no caller.
use Rattle.std.proofs.Common.{ℕ, List, [], slice_index_or}
use Rattle.mh_core.specs.Books.{opened_book}
use Rattle.mh_ledger.specs.Ledgers.{no_ledger}
use Rattle.mh_share.specs.Callers.{CallerState, caller_by}

abbrev pub no_caller : CallerState
no_caller = caller_by (opened_book (record { points = []; sites = [] }) 0 (record { history = 0; ledger = 0; total = 0 })) no_ledger

abbrev pub caller_at : List CallerState → ℕ → CallerState
caller_at cs w = slice_index_or cs w no_caller
