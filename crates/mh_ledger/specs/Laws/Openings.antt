-- Ledgers before any hit.
use Rattle.std.proofs.Common.{◌≡◌, ◌<◌, ◌∙◌, ℕ, ap, arith, length, map}
use Rattle.std.specs.List.{All, range_with_len}
use Rattle.std.proofs.lemmas.List.{get_or-map, length-map, length-replicate}
use Rattle.mh_ledger.specs.Ledgers.{LedgerState, opened_ledger}

pub opened_lengths : (count limit workers : ℕ) → All (λ (l : LedgerState). length l.unflushed ≡ count) (map (opened_ledger count limit) (range_with_len 0 workers))
opened_lengths count limit workers i l h =
    let inside : i < length (range_with_len 0 workers) = omega (arith, h, length-map (range_with_len 0 workers) (opened_ledger count limit)) in
    ap (λ (m : LedgerState). length m.unflushed) (get_or-map (opened_ledger count limit) (range_with_len 0 workers) i 0 l inside) ∙ length-replicate count 0
