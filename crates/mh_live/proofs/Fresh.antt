-- The ledgers and the passes of an opening, and the shares that its book keeps.
use Rattle.std.proofs.Common.{◌≡◌, ℕ, List, [], ◌∷◌, ap, length, map, refl, replicate}
use Rattle.std.specs.List.{range_with_len}
use Rattle.std.proofs.lemmas.List.{length-replicate}
use Rattle.std.proofs.lemmas.Simd.{map-map}
use Rattle.mh_ledger.specs.Ledgers.{LedgerState, opened_ledger}
use Rattle.mh_site.specs.Defined.{DefinitionData}
use Rattle.mh_site.specs.Links.{links}
use Rattle.mh_core.specs.Books.{opened_book}
use Rattle.mh_core.specs.Limits.{LimitsData}
use Rattle.mh_live.specs.Passes.{PassState, new_pass, new_passes}

pub ledgers_back : (ls : List LedgerState) → map (λ (p : PassState). p.ledger) (map new_pass ls) ≡ ls
ledgers_back [] = refl
ledgers_back (l ∷ ls) = ap (λ (r : List LedgerState). l ∷ r) (ledgers_back ls)

pub passes_are : (d : DefinitionData) (limit workers : ℕ) → map new_pass (map (opened_ledger (length (links d)) limit) (range_with_len 0 workers)) ≡ new_passes d limit workers
passes_are d limit workers = map-map new_pass (opened_ledger (length (links d)) limit) (range_with_len 0 workers)

-- a book without records keeps a share of each worker
pub opened_shares : (d : DefinitionData) (workers : ℕ) (l : LimitsData) → length (opened_book d workers l).totals.shares ≡ workers
opened_shares d workers l = length-replicate workers (replicate (length (links d)) 0)
