-- The totals after a ledger's hits were added to them and to a share.
use Rattle.std.proofs.Common.{◌≡◌, ℕ, ◌<◌, List, [], length, map, slice_index_or, slice_set, ap, sym, ◌∙◌, arith, Vec, Global}
use Rattle.std.proofs.lemmas.List.{map-set, get_or-map, length-map}
use Rattle.mh_ledger.specs.Ledgers.{added, flushed_into, Holds, LedgerState, TotalsState}

abbrev pub items_of : Vec ℕ Global → List ℕ
items_of v = v.items

-- as totals are seen
abbrev pub state_of : ℕ → List ℕ → List (Vec ℕ Global) → TotalsState
state_of limit total shares = record { limit = limit; total = total; shares = map items_of shares }

share_set : (shares : List (Vec ℕ Global)) (w : ℕ) (old new : Vec ℕ Global) (hits : List ℕ) → w < length shares → old ≡ slice_index_or shares w old → new.items ≡ added old.items hits
    → map items_of (slice_set shares w new) ≡ slice_set (map items_of shares) w (added (slice_index_or (map items_of shares) w []) hits)
share_set shares w old new hits in' read sum =
    map-set items_of shares w new
    ∙ ap (slice_set (map items_of shares) w) (sum ∙ ap (λ share. added share hits) (ap items_of read ∙ sym (get_or-map items_of shares w old [] in')))

pub taken : (limit : ℕ) (total total' : List ℕ) (shares : List (Vec ℕ Global)) (w : ℕ) (old new : Vec ℕ Global) (hits : List ℕ) (l : LedgerState) → hits ≡ l.unflushed → w ≡ l.worker
    → total' ≡ added total hits → old ≡ slice_index_or shares w old → new.items ≡ added old.items hits → Holds (state_of limit total shares) l
    → state_of limit total' (slice_set shares w new) ≡ flushed_into (state_of limit total shares) l
taken limit total total' shares w old new hits l which whose sums read sum held =
    let t = state_of limit total shares in
    let in' : w < length shares = omega (arith, held.0, whose, length-map shares items_of) in
    let put : List (List ℕ) → ℕ → List ℕ → List (List ℕ) = λ rows k more. slice_set rows k (added (slice_index_or rows k []) more) in
    ap (λ (rows : List (List ℕ)). record { limit = limit; total = total'; shares = rows })
    (share_set shares w old new hits in' read sum ∙ (ap (λ k. put t.shares k hits) whose ∙ ap (put t.shares l.worker) which))
    ∙ ap (λ (numbers : List ℕ). record { limit = limit; total = numbers; shares = put t.shares l.worker l.unflushed }) (sums ∙ ap (added total) which)
