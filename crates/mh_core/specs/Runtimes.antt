-- The view of a runtime that contracts use, and the replies, counts and refusals of its calls.
use Rattle.std.specs.Prelude.{◌≡◌, ◌⊎◌, ℕ, ◌<◌, true, false, List, length, map, slice_set, refl}
use Rattle.std.specs.Coded.{Coded, code_by, coded×, coded_list}
use Rattle.std.specs.List.{range_with_len}
use Rattle.mh_base.specs.Tests.{Tests, test, only}
use Rattle.mh_type.specs.declared.value.Value.{Value}
use Rattle.mh_eval.specs.Entered.{EntersPlain}
use Rattle.mh_ledger.specs.Codes.{coded_ledger}
use Rattle.mh_ledger.specs.Ledgers.{AreHeld, LedgerState, at, ledger_at, opened_ledger, with_hit}
use Rattle.mh_site.specs.Defined.{DefinitionData}
use Rattle.mh_site.specs.Links.{links}
use Rattle.mh_core.specs.declared.record.Record.{Record}
use Rattle.mh_core.specs.declared.record.Record.TheVariants.{Flushed}
use Rattle.mh_core.specs.declared.refusal.Refusal.{Refusal}
use Rattle.mh_core.specs.declared.refusal.Refusal.TheVariants.{NoWorker, LedgerFull}
use Rattle.mh_core.specs.Books.{BookState, MayRefuse, coded_book, opened_book}
use Rattle.mh_core.specs.Hits.{hits}
use Rattle.mh_core.specs.Installations.{linked, linked_sites}
use Rattle.mh_core.specs.Legal.{callee_tests}
use Rattle.mh_core.specs.Limits.{LimitsData}
use Rattle.mh_core.specs.Records.{hits_in}
use Rattle.mh_core.specs.Refusals.{memory_last}

-- the runtime's book, and the ledger of each worker in order
pub record RuntimeState : Type 0 where
  pub book : BookState
  pub ledgers : List LedgerState

abbrev pub coded_runtime : Coded RuntimeState
coded_runtime = code_by (BookState × List LedgerState) (coded× coded_book (coded_list coded_ledger)) (λ r. (r.book, r.ledgers)) (λ p. record { book = p.0; ledgers = p.1 }) (λ _. refl)

-- the runtime before its first call
abbrev pub opened_runtime : DefinitionData → ℕ → LimitsData → RuntimeState
opened_runtime d workers l = record { book = opened_book d workers l; ledgers = map (opened_ledger (length (links d)) l.ledger) (range_with_len 0 workers) }

-- the book's totals hold each worker's ledger, which has a number for each link and the limit of ledgers
pub record IsRuntime (b : BookState) (ledgers : List LedgerState) : Type 0 where
  pub held : AreHeld b.totals ledgers
  pub links : (w : ℕ) → w < length ledgers → length (ledger_at ledgers w).unflushed ≡ length (links b.definition)
  pub limit : (w : ℕ) → w < length ledgers → (ledger_at ledgers w).limit ≡ b.limits.ledger

-- the worker may count the hit of a call, if it hits a link
abbrev pub HasRoom : RuntimeState → ℕ → ℕ → List Value → Type 0
HasRoom r w s a = (j : ℕ) → hits r.book.definition s a j ≡ true → at (ledger_at r.ledgers w).unflushed j < r.book.limits.ledger

-- the tests of a call that depend on its worker's hits
abbrev pub room_tests : RuntimeState → ℕ → ℕ → List Value → Tests Refusal
room_tests r w s a = test (HasRoom r w s a) (only LedgerFull) memory_last

-- the tests of a call, in order
abbrev pub call_tests : RuntimeState → ℕ → ℕ → List Value → Tests Refusal
call_tests r w s a = callee_tests r.book.definition (length r.ledgers) w s a (room_tests r w s a)

-- the worker's ledger has one more hit of the link that is hit, and of no other
pub record CountsHit (d : DefinitionData) (w s : ℕ) (a : List Value) (old new : List LedgerState) : Type 0 where
  pub hit : (j : ℕ) → hits d s a j ≡ true → new ≡ slice_set old w (with_hit (ledger_at old w) j)
  pub none : ((j : ℕ) → hits d s a j ≡ false) → new ≡ old

-- a call that evaluates no node with String in its type, also in invoked trees, so that it does not allocate
abbrev pub TakesNoMemory : BookState → ℕ → List Value → Type 0
TakesNoMemory b s a = EntersPlain (linked_sites b.definition b.records) (linked b.definition b.records s).tree a

-- the record of a worker's flush
abbrev pub flush_of : RuntimeState → ℕ → Record
flush_of r w = Flushed w (hits_in (ledger_at r.ledgers w).unflushed)

-- there is no such worker, or the first failing test of its flush is reported, given that `calls` calls were accepted besides the records
abbrev pub RefusesFlush : RuntimeState → ℕ → ℕ → Refusal → Type 0
RefusesFlush r calls w told = ((w < length r.ledgers → ⊥) × (told ≡ NoWorker)) ⊎ ((w < length r.ledgers) × MayRefuse r.book calls (flush_of r w) told)
