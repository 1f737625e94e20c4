-- The replies of an office, over its records.
use Rattle.std.specs.Prelude.{◌≡◌, ◌⊎◌, ℕ, ◌+◌, ◌<◌, true, false, List, ◌∷◌, length, reverse, Result, IfErr, IfOk, OnErr, OnOk}
use Rattle.mh_ledger.specs.Ledgers.{LedgerState, TotalsState, Holds}
use Rattle.mh_network.specs.Problems.{ProblemData}
use Rattle.mh_site.specs.Defined.{DefinitionData}
use Rattle.mh_core.specs.Books.{BookState, IsBook, Legal, Takes, reply_to}
use Rattle.mh_core.specs.Limits.{LimitsData}
use Rattle.mh_core.specs.Pending.{SameBook}
use Rattle.mh_core.specs.Problems.{IsTaken, problem_at}
use Rattle.mh_core.specs.Records.{hits_in}
use Rattle.mh_core.specs.Replayed.{controls}
use Rattle.mh_core.specs.Rows.{tests_of_record}
use Rattle.mh_base.specs.Tests.{Passes, Refuses}
use Rattle.mh_core.specs.declared.record.Record.{Record}
use Rattle.mh_core.specs.declared.record.Record.TheVariants.{Flushed, Installed, Invalidated, Published, Snapped, Targeted}
use Rattle.mh_core.specs.declared.refusal.Refusal.{Refusal}
use Rattle.mh_core.specs.declared.refusal.Refusal.TheVariants.{NoMemory, NoSnapshot}
use Rattle.mh_live.specs.Offices.{AreTotalsOf, OfficeState, ReceiptState, list_of}
use Rattle.mh_live.specs.declared.flush_fault.FlushFault.{FlushFault}
use Rattle.mh_live.specs.declared.flush_fault.FlushFault.TheVariants.{NotHeld, Refused}

-- an office of this definition, within these limits and for this many workers: passes read the list of its records
pub record IsOffice (d : DefinitionData) (l : LimitsData) (workers : ℕ) (o : OfficeState) : Type 0 where
  pub lawful : IsBook o.book
  pub definition : o.book.definition ≡ d
  pub limits : o.book.limits ≡ l
  pub shares : length o.book.totals.shares ≡ workers
  pub shows : o.published ≡ list_of o.book

-- exactly this record is appended, passes read the list of the records, and the receipt has that list
pub record Accepts (o : OfficeState) (e : Record) (r : ReceiptState) (new : OfficeState) : Type 0 where
  pub takes : Takes o.book 0 e new.book
  pub answers : r.reply ≡ reply_to o.book.definition o.book.records e
  pub told_list : r.front ≡ list_of new.book
  pub shows : new.published ≡ list_of new.book
  pub stays : new.closed ≡ o.closed

-- a record is refused by the first test that fails, or for lack of memory if none fails
abbrev pub IsLegalRefusal : BookState → Record → Refusal → Type 0
IsLegalRefusal b e told = Refuses (tests_of_record b.definition b.limits (length b.records) b.records e) told

-- the flush of a ledger that is not held, or that the book refuses
abbrev pub IsLegalFault : BookState → LedgerState → FlushFault → Type 0
IsLegalFault b l NotHeld = Holds b.totals l → ⊥
IsLegalFault b l (Refused told) = Holds b.totals l × IsLegalRefusal b (Flushed l.worker (hits_in l.unflushed)) told

-- the book, except for its memory, and the list that passes read are not changed
abbrev pub IsUntouched : OfficeState → OfficeState → Type 0
IsUntouched o new = SameBook o.book new.book × (new.published ≡ o.published)

-- a record that changes the world, by a control
abbrev pub ChangesWorld : Record → Type 0
ChangesWorld (Flushed w hits) = ⊥
ChangesWorld (Targeted s tree) = Unit {0}
ChangesWorld (Invalidated points) = Unit {0}
ChangesWorld Snapped = ⊥
ChangesWorld (Published n plan) = ⊥
ChangesWorld (Installed m) = Unit {0}

-- A record that passed its tests, and for which there was all memory that the book takes, is not published: its trees got no further
-- owners, left_right refused it, or the office was closed. A closed office stays closed
pub record HasHalted (o : OfficeState) (e : Record) (told : Refusal) (new : OfficeState) : Type 0 where
  pub want : told ≡ NoMemory
  pub passes : Passes (tests_of_record o.book.definition o.book.limits (length o.book.records) o.book.records e)
  pub room : new.book.room ≡ true
  pub stays : o.closed ≡ true → new.closed ≡ true

-- nothing is changed; or a publication has halted, which is the only way in which an office may close
abbrev pub MayClose : OfficeState → Record → Refusal → OfficeState → Type 0
MayClose o e told new = (new ≡ o) ⊎ HasHalted o e told new

-- The reply to the change of a record, and its effect on an office of this definition: it is accepted while the office is open, or refused,
-- and the totals are not changed
pub record Changes (d : DefinitionData) (l : LimitsData) (workers : ℕ) (o : OfficeState) (e : Record) (result : Result ReceiptState Refusal) (new : OfficeState) : Type 0 where
  pub office : IsOffice d l workers o
  pub accepted : IfOk result (λ r. Accepts o e r new)
  pub was_open : OnOk result (o.closed ≡ false)
  pub totals : new.book.totals ≡ o.book.totals
  pub refused : IfErr result (IsLegalRefusal o.book e)
  pub kept : OnErr result (IsUntouched o new)
  pub closed : IfErr result (λ told. MayClose o e told new)

-- a receipt of this record, after some records that are legal within these limits: its reply, and the list of controls up to it
pub record IsReceipt (d : DefinitionData) (l : LimitsData) (e : Record) (r : ReceiptState) : Type 0 where
  pub before : List Record
  pub legal : Legal d l before
  pub passes : Passes (tests_of_record d l (length before) before e)
  pub answers : r.reply ≡ reply_to d before e
  pub told_list : r.front ≡ reverse (controls d (e ∷ before))

-- a refusal of this record, after some records that are legal within these limits
pub record IsRefusal (d : DefinitionData) (l : LimitsData) (e : Record) (told : Refusal) : Type 0 where
  pub before : List Record
  pub legal : Legal d l before
  pub refuses : Refuses (tests_of_record d l (length before) before e) told

-- a fault of a flush: the totals of some legal records do not hold the ledger, or a refusal
abbrev pub IsFlushRefusal : DefinitionData → LimitsData → ℕ → LedgerState → FlushFault → Type 0
IsFlushRefusal d l workers ledger NotHeld = (t : TotalsState) × AreTotalsOf d l workers t × (Holds t ledger → ⊥)
IsFlushRefusal d l workers ledger (Refused told) = IsRefusal d l (Flushed ledger.worker (hits_in ledger.unflushed)) told

-- some legal records that took a snapshot of this number, and its problem
pub record IsProblem (d : DefinitionData) (l : LimitsData) (n : ℕ) (p : ProblemData) : Type 0 where
  pub before : List Record
  pub legal : Legal d l before
  pub taken : IsTaken before n
  pub value : p ≡ problem_at d before n

-- some legal records that took no snapshot of this number; or that did, and memory ran out
pub record IsNoProblem (d : DefinitionData) (l : LimitsData) (n : ℕ) (told : Refusal) : Type 0 where
  pub before : List Record
  pub legal : Legal d l before
  pub refuses : ((told ≡ NoSnapshot) × (IsTaken before n → ⊥)) ⊎ ((told ≡ NoMemory) × IsTaken before n)
