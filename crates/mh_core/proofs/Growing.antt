-- What a book keeps with one record more.
use Rattle.std.proofs.Common.{Bool, ◌≡◌, ℕ, ◌+◌, ◌<◌, List, [], ◌∷◌, ◌++◌, length, ap, sym, subst, ◌∙◌, arith}
use Rattle.std.specs.Prelude.{reverse}
use Rattle.mh_site.specs.Defined.{DefinitionData}
use Rattle.mh_site.specs.Worlds.{WorldState}
use Rattle.mh_ledger.specs.Ledgers.{TotalsState}
use Rattle.mh_core.specs.declared.record.Record.{Record}
use Rattle.mh_core.specs.declared.record.Record.TheVariants.{Flushed, Targeted, Invalidated, Snapped, Published, Installed}
use Rattle.mh_core.specs.Books.{BookState, IsBook, AreTotals}
use Rattle.mh_core.specs.Limits.{LimitsData}
use Rattle.mh_core.specs.Installations.{PublishedPlan}
use Rattle.mh_core.specs.PlanTables.{plans_of}
use Rattle.mh_core.specs.Records.{total}
use Rattle.mh_core.specs.Replayed.{world}
use Rattle.mh_core.specs.Rows.{tests_of_record}
use Rattle.mh_core.specs.Snapshots.{SnapshotState, snapshots_of}
use Rattle.mh_base.specs.Tests.{Passes}
use Rattle.mh_core.specs.Laws.Worlds.{world_front, newest_push}

pub book_room : (b : BookState) → IsBook b → b.world.front + 1 < 18446744073709551616
book_room b is =
    let front : b.world.front ≡ (world b.definition b.records).front = ap (λ (w : WorldState). w.front) is.world in
    omega (arith, front, world_front b.definition b.records, is.few, is.limits.history)

pub fits_in : (d : DefinitionData) (l : LimitsData) (n : ℕ) (r : List Record) (e : Record) → Passes (tests_of_record d l n r e) → n < l.history
fits_in d l n r (Flushed w hits) passes = passes.0
fits_in d l n r (Targeted s tree) passes = passes.1.1.1.1.0
fits_in d l n r (Invalidated points) passes = passes.1.0
fits_in d l n r Snapped passes = passes.0.0
fits_in d l n r (Published m plan) passes = passes.1.1.0.0
fits_in d l n r (Installed m) passes = passes.1.1.0

-- what is made of the records
pub record Made (b : BookState) (r : List Record) (w : WorldState) (t : TotalsState) (s : List SnapshotState) (n : List PublishedPlan) : Type 0 where
  pub world : w ≡ world b.definition r
  pub totals : AreTotals b.definition b.limits r t
  pub snapshots : s ≡ snapshots_of b.definition r
  pub plans : n ≡ plans_of r

-- what a record that is no flush leaves
pub totals_stay : (b : BookState) (e : Record) → IsBook b → ((j : ℕ) → total (e ∷ b.records) j ≡ total b.records j) → AreTotals b.definition b.limits (e ∷ b.records) b.totals
totals_stay b e is same = record { count = is.totals.count; sums = λ j h. is.totals.sums j h ∙ sym (same j); limit = is.totals.limit }

abbrev pub pushed : Bool → BookState → List Record → WorldState → TotalsState → List SnapshotState → List PublishedPlan → BookState
pushed k b r w t s n = record { definition = b.definition; limits = b.limits; records = r; world = w; totals = t; snapshots = s; plans = n; room = k }

-- a book that takes a record, which is pushed behind the others
pub book_grows : {k : Bool} (b : BookState) (calls : ℕ) (e : Record) (older newer : List Record) (w : WorldState) (t : TotalsState) (s : List SnapshotState) (n : List PublishedPlan) → IsBook b
    → Passes (tests_of_record b.definition b.limits (length b.records + calls) b.records e) → Made b (e ∷ b.records) w t s n → reverse older ≡ b.records → newer ≡ older ++ e ∷ [] → IsBook (pushed k b (reverse newer) w t s n)
book_grows {k} b calls e older newer w t s n is passes made was push =
    let few = fits_in b.definition b.limits (length b.records + calls) b.records e passes in
    let items : reverse newer ≡ e ∷ b.records = ap reverse push ∙ (newest_push older e ∙ ap (λ (r : List Record). e ∷ r) was) in
    subst (λ (r : List Record). IsBook (pushed k b r w t s n)) (sym items) record {
      definition = is.definition;
      limits = is.limits;
      legal = ((length b.records + calls, (omega arith, passes)), is.legal);
      few = omega arith;
      world = made.world;
      totals = made.totals;
      snapshots = made.snapshots;
      plans = made.plans;
    }
