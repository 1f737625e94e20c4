-- The view of an office and of its receipts that contracts use.
use Rattle.std.specs.Prelude.{ℕ, ◌≡◌, ◌<◌, Bool, false, true, List, [], fold, length, reverse, refl}
use Rattle.std.specs.Coded.{Coded, code_by, coded×, coded_bool}
use mathlib.Core.List.{IsPrefix}
use Rattle.logbook.specs.Pages.{Book}
use Rattle.mh_ledger.specs.Ledgers.{IsTotals, TotalsState}
use Rattle.mh_site.specs.Defined.{DefinitionData}
use Rattle.mh_site.specs.declared.control.Control.{Control}
use Rattle.mh_core.specs.Books.{AreTotals, BookState, Legal, coded_book}
use Rattle.mh_core.specs.Limits.{LimitsData}
use Rattle.mh_core.specs.Replayed.{controls}
use Rattle.mh_core.specs.contracts.reply.Reply as reply
use Rattle.mh_core.specs.declared.record.Record.{Record}
use Rattle.mh_core.specs.declared.reply.Reply.{Reply}
use Rattle.mh_live.specs.Pasts.{coded_controls}
use Rattle.mh_live.specs.Rules.{Stands}
use Rattle.mh_live.specs.Steps.{stepped}
use Rattle.mh_live.specs.declared.published.Published.{Published}
use Rattle.mh_live.specs.declared.published.Publication.{Publication}

-- the book, the list of controls that passes currently read, oldest first, and whether a publication failed
pub record OfficeState : Type 0 where
  pub book : BookState
  pub published : List Control
  pub closed : Bool

abbrev pub coded_office : Coded OfficeState
coded_office =
    code_by (BookState × (List Control × Bool)) (coded× coded_book (coded× coded_controls coded_bool)) (λ o. (o.book, (o.published, o.closed)))
    (λ p. record { book = p.0; published = p.1.0; closed = p.1.1 }) (λ _. refl)

-- the totals of some records that are legal within these limits, with a share of each of this many workers
pub record AreTotalsOf (d : DefinitionData) (l : LimitsData) (workers : ℕ) (t : TotalsState) : Type 0 where
  pub records : List Record
  pub legal : Legal d l records
  pub sums : AreTotals d l records t
  pub shares : length t.shares ≡ workers
  pub lawful : IsTotals t

-- the controls of a book's records, oldest first
abbrev pub list_of : BookState → List Control
list_of b = reverse (controls b.definition b.records)

-- the list that is published is that of the records. Nothing is pending while the office is open, and something if it is closed
pub record InStep (name : Book) (d : DefinitionData) (l : LimitsData) (workers : ℕ) (shown : Published) (pending : List Publication) (front : List Control) (b : BookState) (closed : Bool) : Type 0 where
  pub stands : Stands name d shown
  pub published : shown.past.log ≡ list_of b
  pub known : front ≡ list_of b
  pub still : closed ≡ false → pending ≡ []
  pub halted : closed ≡ true → 0 < length pending
  pub definition : b.definition ≡ d
  pub limits : b.limits ≡ l
  pub shares : length b.totals.shares ≡ workers

-- the pending steps lead to a world that may be published
abbrev pub CanShow : Book → DefinitionData → Published → List Publication → Type 0
CanShow name d shown pending = (next : Published) → next ≡ fold stepped shown pending → Stands name d next × IsPrefix shown.past.log next.past.log

-- the reply, and the list of controls up to the event
pub record ReceiptState : Type 0 where
  pub reply : Reply
  pub front : List Control

abbrev pub coded_receipt : Coded ReceiptState
coded_receipt =
    code_by (Reply × List Control) (coded× reply.the_row.coded coded_controls) (λ r. (r.reply, r.front)) (λ p. record { reply = p.0; front = p.1 }) (λ _. refl)
