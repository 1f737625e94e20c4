-- Desks of C as contracts see them, and the effects of records, a show and a flush.
use Rattle.std.specs.Prelude.{◌≡◌, ℕ, List, slice_set, refl}
use Rattle.std.specs.Coded.{Coded, code_by, coded×}
use Rattle.mh_core.specs.Books.{Takes}
use Rattle.mh_core.specs.declared.record.Record.{Record}
use Rattle.mh_core.specs.declared.refusal.Refusal.{Refusal}
use Rattle.mh_ledger.specs.Ledgers.{AreHeld, Holds as HoldsLedger, LedgerState, settled}
use Rattle.mh_share.specs.Desks.{DeskState, RefusesFlush, coded_desk, flush_of, opened_desk}
use Rattle.mh_json.specs.contracts.json.scope.Scope as scope
use Rattle.mh_json.specs.declared.json.declarations.Declarations.{Declarations}
use Rattle.mh_json.specs.declared.json.scope.Scope.{Scope}
use Rattle.mhlink_c.specs.Opening.{limits_of}
use Rattle.mhlink_c.specs.declared.failure.Failure.{Failure}
use Rattle.mhlink_c.specs.declared.failure.Failure.TheVariants.{Refused}
use Rattle.mhlink_c.specs.declared.texts.MhlinkLimits.{MhlinkLimits}

-- the desk, and the names that its definition declares
pub record HeldDeskState : Type 0 where
  pub desk : DeskState
  pub scope : Scope

abbrev pub coded_held_desk : Coded HeldDeskState
coded_held_desk = code_by (DeskState × Scope) (coded× coded_desk scope.the_row.coded) (λ h. (h.desk, h.scope)) (λ p. record { desk = p.0; scope = p.1 }) (λ _. refl)

-- the desk of a definition, and its names
abbrev pub opened_held_desk : Declarations → ℕ → MhlinkLimits → HeldDeskState
opened_held_desk d workers limits = record { desk = opened_desk d.definition workers (limits_of limits); scope = d.scope }

-- exactly this record is appended, which passes its tests; the totals, the published state, and the names stay
pub record DeskRecords (h new : HeldDeskState) (e : Record) : Type 0 where
  pub taken : Takes h.desk.book 0 e new.desk.book
  pub totals : new.desk.book.totals ≡ h.desk.book.totals
  pub shown : new.desk.shown ≡ h.desk.shown
  pub scope : new.scope ≡ h.scope

-- the published state is that of the book, and nothing else changes
abbrev pub shows : HeldDeskState → HeldDeskState
shows h = record { desk = record { book = h.desk.book; shown = h.desk.book }; scope = h.scope }

-- the desk's count of the worker's hits is that of the ledger's flushed hits
abbrev pub Holds : HeldDeskState → LedgerState → Type 0
Holds h ledger = HoldsLedger h.desk.book.totals ledger

-- the hits of a ledger go to the totals, which then hold it and all others; the published state and the names stay
pub record DeskFlushes (h : HeldDeskState) (ledger : LedgerState) (new : HeldDeskState) : Type 0 where
  pub taken : Takes h.desk.book 0 (flush_of ledger) new.desk.book
  pub all : (ledgers : List LedgerState) → AreHeld h.desk.book.totals ledgers → AreHeld new.desk.book.totals (slice_set ledgers ledger.worker (settled ledger))
  pub shown : new.desk.shown ≡ h.desk.shown
  pub scope : new.scope ≡ h.scope

-- the desk does not hold the ledger, or the first failing test of its flush
abbrev pub RefusesDeskFlush : HeldDeskState → LedgerState → Failure → Type 0
RefusesDeskFlush h ledger e = (told : Refusal) × ((e ≡ Refused told) × RefusesFlush h.desk.book ledger told)
