-- The view of a desk that contracts use.
use Rattle.std.specs.Prelude.{◌≡◌, ◌⊎◌, ℕ, List, length, map, refl}
use Rattle.std.specs.Coded.{Coded, code_by, coded×}
use Rattle.std.specs.List.{range_with_len}
use Rattle.mh_ledger.specs.Ledgers.{Holds, LedgerState, opened_ledger}
use Rattle.mh_site.specs.Defined.{DefinitionData}
use Rattle.mh_site.specs.Links.{links}
use Rattle.mh_core.specs.Books.{BookState, MayRefuse, coded_book, opened_book}
use Rattle.mh_core.specs.Limits.{LimitsData}
use Rattle.mh_core.specs.Records.{hits_in}
use Rattle.mh_core.specs.declared.record.Record.{Record}
use Rattle.mh_core.specs.declared.record.Record.TheVariants.{Flushed}
use Rattle.mh_core.specs.declared.refusal.Refusal.{Refusal}
use Rattle.mh_core.specs.declared.refusal.Refusal.TheVariants.{NoMemory, NoWorker}
use Rattle.mh_share.specs.Callers.{CallerState, caller_by}

-- the desk's book, and that book as it was when the shown world was its newest
pub record DeskState : Type 0 where
  pub book : BookState
  pub shown : BookState

abbrev pub coded_desk : Coded DeskState
coded_desk = code_by (BookState × BookState) (coded× coded_book coded_book) (λ d. (d.book, d.shown)) (λ p. record { book = p.0; shown = p.1 }) (λ _. refl)

-- a desk before its first record
abbrev pub opened_desk : DefinitionData → ℕ → LimitsData → DeskState
opened_desk d workers l = record { book = opened_book d workers l; shown = opened_book d workers l }

-- the callers of its workers, in order, before their first calls
abbrev pub opened_callers : DefinitionData → ℕ → LimitsData → List CallerState
opened_callers d workers l =
    map (λ w. caller_by (opened_book d workers l) (opened_ledger (length (links d)) l.ledger w)) (range_with_len 0 workers)

-- the record of a flush of this ledger
abbrev pub flush_of : LedgerState → Record
flush_of l = Flushed l.worker (hits_in l.unflushed)

-- the book does not hold the ledger, or the first failing test of its flush is reported
abbrev pub RefusesFlush : BookState → LedgerState → Refusal → Type 0
RefusesFlush b l told = ((told ≡ NoWorker) × (Holds b.totals l → ⊥)) ⊎ (Holds b.totals l × MayRefuse b 0 (flush_of l) told)

-- the book does not hold the ledger, or lack of memory is reported
abbrev pub RefusesLook : BookState → LedgerState → Refusal → Type 0
RefusesLook b l told = ((told ≡ NoWorker) × (Holds b.totals l → ⊥)) ⊎ (Holds b.totals l × (told ≡ NoMemory))
