-- The view of a book that contracts use, and the invariants of books.
use Rattle.std.specs.Prelude.{◌≡◌, ℕ, ◌+◌, ◌<◌, ◌≤◌, ◌&&◌, Bool, false, nat_lt, List, [], ◌∷◌, length, reverse, vec_len, refl}
use Rattle.std.specs.Coded.{Coded, code_by, coded×, coded_bool, coded_list}
use Rattle.std.specs.Vec.{vec_capacity}
use Rattle.mh_ledger.specs.Codes.{coded_totals}
use Rattle.mh_ledger.specs.Ledgers.{TotalsState, at, opened_totals}
use Rattle.mh_site.specs.Defined.{DefinitionData, coded_definition}
use Rattle.mh_site.specs.Lawful.{IsDefinition}
use Rattle.mh_site.specs.Links.{links}
use Rattle.mh_site.specs.Worlds.{WorldState, coded_world, opened}
use Rattle.mh_core.specs.contracts.record.Record as entry
use Rattle.mh_core.specs.declared.book.Book.TheInside.{Inside}
use Rattle.mh_core.specs.declared.record.Record.{Record}
use Rattle.mh_core.specs.declared.record.Record.TheVariants.{Flushed, Targeted, Invalidated, Snapped, Published, Installed}
use Rattle.mh_core.specs.declared.refusal.Refusal.{Refusal}
use Rattle.mh_core.specs.declared.reply.Reply.{Reply}
use Rattle.mh_core.specs.declared.reply.Reply.TheVariants as reply
use Rattle.mh_core.specs.Limits.{LimitsData, IsLimits, coded_limits}
use Rattle.mh_core.specs.Installations.{PublishedPlan, report}
use Rattle.mh_core.specs.PlanTables.{coded_published, plans_of}
use Rattle.mh_core.specs.Records.{plans, snapshots, total}
use Rattle.mh_core.specs.Replayed.{world}
use Rattle.mh_core.specs.Rows.{tests_of_record}
use Rattle.mh_core.specs.Snapshots.{SnapshotState, coded_snapshot, snapshots_of}
use Rattle.mh_base.specs.Tests.{Passes, Refuses}

-- the book's records, newest first, with the state that follows from them: the world, the totals, the snapshots and the plans, newest
-- first; and whether there is memory for one more of each
pub record BookState : Type 0 where
  pub definition : DefinitionData
  pub limits : LimitsData
  pub records : List Record
  pub world : WorldState
  pub totals : TotalsState
  pub snapshots : List SnapshotState
  pub plans : List PublishedPlan
  pub room : Bool

abbrev pub coded_book : Coded BookState
coded_book =
    code_by ((DefinitionData × LimitsData) × ((List Record × WorldState) × ((TotalsState × Bool) × (List SnapshotState × List PublishedPlan))))
    (coded× (coded× coded_definition coded_limits) (coded× (coded× (coded_list entry.the_row.coded) coded_world) (coded× (coded× coded_totals coded_bool) (coded× (coded_list coded_snapshot) (coded_list coded_published)))))
    (λ b. ((b.definition, b.limits), ((b.records, b.world), ((b.totals, b.room), (b.snapshots, b.plans)))))
    (λ p. record { definition = p.0.0; limits = p.0.1; records = p.1.0.0; world = p.1.0.1; totals = p.1.1.0.0; snapshots = p.1.1.1.0; plans = p.1.1.1.1; room = p.1.1.0.1 }) (λ _. refl)

abbrev pub book_state : Inside → BookState
book_state b =
    record {
      definition = b.definition;
      limits = b.limits;
      records = reverse b.records.items;
      world = b.world;
      totals = b.totals;
      snapshots = reverse b.snapshots.items;
      plans = reverse b.plans.items;
      room = nat_lt (vec_len b.records) (vec_capacity b.records) && (nat_lt (vec_len b.snapshots) (vec_capacity b.snapshots) && nat_lt (vec_len b.plans) (vec_capacity b.plans));
    }

-- a book without records
abbrev pub opened_book : DefinitionData → ℕ → LimitsData → BookState
opened_book d workers l =
    record { definition = d; limits = l; records = []; world = opened d; totals = opened_totals (length (links d)) workers l.total; snapshots = []; plans = []; room = false }

-- each record passed its tests when some number of events had been accepted, at least as many as there were records
abbrev pub Legal : DefinitionData → LimitsData → List Record → Type 0
Legal d l [] = Unit {0}
Legal d l (e ∷ r) = ((accepted : ℕ) × ((length r ≤ accepted) × Passes (tests_of_record d l accepted r e))) × Legal d l r

-- the totals are the sums of the flushes among the records
pub record AreTotals (d : DefinitionData) (l : LimitsData) (r : List Record) (t : TotalsState) : Type 0 where
  pub count : length t.total ≡ length (links d)
  pub sums : (j : ℕ) → j < length (links d) → at t.total j ≡ total r j
  pub limit : t.limit ≡ l.total

-- the records are legal and within the limit, and the rest follows from them
pub record IsBook (b : BookState) : Type 0 where
  pub definition : IsDefinition b.definition
  pub limits : IsLimits b.limits
  pub legal : Legal b.definition b.limits b.records
  pub few : length b.records ≤ b.limits.history
  pub world : b.world ≡ world b.definition b.records
  pub totals : AreTotals b.definition b.limits b.records b.totals
  pub snapshots : b.snapshots ≡ snapshots_of b.definition b.records
  pub plans : b.plans ≡ plans_of b.records

-- a record passes its tests, given that `calls` calls were accepted besides the records
abbrev pub MayTake : BookState → ℕ → Record → Type 0
MayTake b calls e = Passes (tests_of_record b.definition b.limits (length b.records + calls) b.records e)

-- the refusal of the first failing test of a record, or lack of memory if none fails
abbrev pub MayRefuse : BookState → ℕ → Record → Refusal → Type 0
MayRefuse b calls e told = Refuses (tests_of_record b.definition b.limits (length b.records + calls) b.records e) told

-- the reply to a record after others
abbrev pub reply_to : DefinitionData → List Record → Record → Reply
reply_to d r (Flushed w hits) = reply.Done
reply_to d r (Targeted s tree) = reply.Done
reply_to d r (Invalidated points) = reply.Done
reply_to d r Snapped = reply.Taken (snapshots r + 1)
reply_to d r (Published n plan) = reply.Published (plans r + 1) plan
reply_to d r (Installed m) = reply.Installed (report d r m)

-- exactly this record is appended, which passes its tests, given that `calls` calls were accepted besides the records
pub record Takes (b : BookState) (calls : ℕ) (e : Record) (new : BookState) : Type 0 where
  pub passes : MayTake b calls e
  pub records : new.records ≡ e ∷ b.records
  pub definition : new.definition ≡ b.definition
  pub limits : new.limits ≡ b.limits

-- the first failing test is reported, or lack of memory if none fails, and nothing changes
pub record Rejects (b : BookState) (calls : ℕ) (e : Record) (told : Refusal) (new : BookState) : Type 0 where
  pub refuses : MayRefuse b calls e told
  pub same : new ≡ b
