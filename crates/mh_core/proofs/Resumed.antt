-- What a book and a runtime keep that go on from an earlier history.
use Rattle.std.proofs.Common.{Bool, true, false, ◌≡◌, ℕ, ◌+◌, ◌<◌, ◌≤◌, not, ◌&&◌, List, [], ◌∷◌, length, map, refl, ap, sym, subst, ◌∙◌, arith}
use Rattle.std.specs.List.{range_with_len}
use Rattle.std.proofs.lemmas.List.{length-replicate}
use Rattle.std.proofs.lemmas.List.FromFn.{get_or-map-range_with_len, length-map-range_with_len}
use Rattle.mh_base.specs.Tests.{Passes}
use Rattle.mh_ledger.specs.Ledgers.{AreHeld, LedgerState, TotalsState, ledger_at, no_ledger}
use Rattle.mh_ledger.specs.Resumptions.{resumed_ledger, resumed_totals}
use Rattle.mh_site.specs.Defined.{DefinitionData}
use Rattle.mh_site.specs.Lawful.{IsDefinition}
use Rattle.mh_site.specs.Links.{links}
use Rattle.mh_site.specs.LookBack.{member}
use Rattle.mh_site.specs.Worlds.{WorldState, opened, replay}
use Rattle.mh_site.specs.declared.control.Control.TheVariants as control
use Rattle.mh_core.specs.declared.record.Record.{Record}
use Rattle.mh_core.specs.Books.{AreTotals, BookState, IsBook, Legal}
use Rattle.mh_core.specs.Installations.{PublishedPlan}
use Rattle.mh_core.specs.Limits.{IsLimits, LimitsData}
use Rattle.mh_core.specs.Records.{is_valid}
use Rattle.mh_core.specs.Replayed.{world}
use Rattle.mh_core.specs.Resumptions.{IsResumedBook, resumed_records, resumption_tests, valid_beside}
use Rattle.mh_core.specs.Runtimes.{IsRuntime}
use Rattle.mh_core.specs.Snapshots.{SnapshotState}
use Rattle.mh_core.specs.Laws.Numbered.{same_numbers}
use Rattle.mh_core.specs.Laws.Worlds.{valid_is}
use Rattle.mh_core.proofs.HitCounts.{hits_counted}
use Rattle.mh_core.proofs.Renewed.{the_book}

module _ (d : DefinitionData) (workers : ℕ) (l : LimitsData) (points hits : List ℕ) (passes : Passes (resumption_tests d workers l points hits)) where
  abbrev r : List Record
  r = resumed_records points hits

  few : 2 ≤ l.history
  few = passes.1.1.1.0

  legal : Legal d l r
  legal = (
    (
      1,
      (
        omega arith,
        (
          omega (arith, few),
          (
            (λ j inside.
                let own = hits_counted hits j in
                let within = passes.1.1.1.1.0 j 0 (omega (arith, inside, passes.1.1.0)) in
                omega (arith, own, within)),
            tt,
          ),
        ),
      ),
    ),
    ((0, (omega arith, (passes.1.0, (omega (arith, few), tt)))), tt),
  )

  totals : AreTotals d l r (resumed_totals hits workers l.total)
  totals = record {
    count = passes.1.1.0;
    sums = λ j inside. let own = hits_counted hits j in omega (arith, own);
    limit = refl;
  }

  pub resumed_book : IsDefinition d → IsLimits l → (k : Bool) → IsBook (the_book l d r (world d r) (resumed_totals hits workers l.total) [] [] k)
  resumed_book lawful limits k = record { definition = lawful; limits = limits; legal = legal; few = few; world = refl; totals = totals; snapshots = refl; plans = refl }

  -- the same, of the parts that a book is made of
  pub made_book : IsDefinition d → IsLimits l → (d' : DefinitionData) (r' : List Record) (w : WorldState) (t : TotalsState) (s : List SnapshotState) (p : List PublishedPlan) (k : Bool)
      → d' ≡ d → r' ≡ r → w ≡ world d r → t ≡ resumed_totals hits workers l.total → s ≡ [] → p ≡ [] → IsBook (the_book l d' r' w t s p k)
  made_book lawful limits d' r' w t s p k definition records same sums snapshots plans =
      subst (λ (x : DefinitionData). IsBook (the_book l x r' w t s p k)) (sym definition)
      (subst (λ (x : List Record). IsBook (the_book l d x w t s p k)) (sym records)
      (subst (λ (x : WorldState). IsBook (the_book l d r x t s p k)) (sym same)
      (subst (λ (x : TotalsState). IsBook (the_book l d r (world d r) x s p k)) (sym sums)
      (subst (λ (x : List SnapshotState). IsBook (the_book l d r (world d r) (resumed_totals hits workers l.total) x p k)) (sym snapshots)
      (subst (λ (x : List PublishedPlan). IsBook (the_book l d r (world d r) (resumed_totals hits workers l.total) [] x k)) (sym plans) (resumed_book lawful limits k))))))

-- the world that such a book opens
pub resumed_world : (d e : DefinitionData) (points hits : List ℕ) (w : WorldState) → e ≡ d → w ≡ replay (opened e) (control.Invalidate points ∷ []) → w ≡ world d (resumed_records points hits)
resumed_world d e points hits w definition same = same ∙ ap (λ (x : DefinitionData). replay (opened x) (control.Invalidate points ∷ [])) definition

unnamed : (b : Bool) → (not b && true) ≡ not b
unnamed true = refl
unnamed false = refl

-- which points are valid
pub resumed_valid : (d : DefinitionData) (workers : ℕ) (l : LimitsData) (points hits : List ℕ) (b : BookState) → IsResumedBook d workers l points hits b → b.world.valid ≡ valid_beside d points
resumed_valid d workers l points hits b resumed =
    let r : List Record = resumed_records points hits in
    ap (λ (w : WorldState). w.valid) resumed.world
    ∙ (valid_is d r ∙ same_numbers false (is_valid r) (λ p. not (member points p)) (length d.points) (λ p inside. unnamed (member points p)))

-- the ledgers are those of a runtime
pub runtime_resumed : (d : DefinitionData) (workers : ℕ) (l : LimitsData) (points hits : List ℕ) (b : BookState) (ledgers : List LedgerState) → length hits ≡ length (links d)
    → IsResumedBook d workers l points hits b → ledgers ≡ map (resumed_ledger hits l.ledger) (range_with_len 0 workers) → AreHeld b.totals ledgers → IsRuntime b ledgers × (length ledgers ≡ workers)
runtime_resumed d workers l points hits b ledgers whole resumed made held =
    let make : ℕ → LedgerState = resumed_ledger hits l.ledger in
    let count : length ledgers ≡ workers = ap length made ∙ length-map-range_with_len make 0 workers in
    let each : (w : ℕ) → w < length ledgers → ledger_at ledgers w ≡ make w =
    λ w inside. ap (λ (ls : List LedgerState). ledger_at ls w) made ∙ get_or-map-range_with_len make 0 workers w w no_ledger (omega (arith, inside, count)) (omega arith) in (
      record {
        held = held;
        links = λ w inside. ap (λ (x : LedgerState). length x.unflushed) (each w inside)
            ∙ (length-replicate (length hits) 0 ∙ (whole ∙ ap (λ (x : DefinitionData). length (links x)) (sym resumed.definition)));
        limit = λ w inside. ap (λ (x : LedgerState). x.limit) (each w inside) ∙ ap (λ (x : LimitsData). x.ledger) (sym resumed.limits);
      },
      count,
    )
