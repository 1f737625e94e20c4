-- A history that begins with what an earlier one left: points that are invalid, and hits.
use Rattle.std.specs.Prelude.{◌≡◌, ◌<◌, ◌≤◌, ℕ, Bool, not, List, [], ◌∷◌, length, map}
use Rattle.std.specs.List.{All, range_with_len}
use Rattle.mh_base.specs.Tests.{Tests, test, only, no_more}
use Rattle.mh_ledger.specs.Resumptions.{resumed_ledger, resumed_totals}
use Rattle.mh_site.specs.Defined.{DefinitionData}
use Rattle.mh_site.specs.Links.{links}
use Rattle.mh_site.specs.LookBack.{member}
use Rattle.mh_core.specs.declared.record.Record.{Record}
use Rattle.mh_core.specs.declared.record.Record.TheVariants.{Flushed, Invalidated}
use Rattle.mh_core.specs.declared.resuming.ResumptionFault.{ResumptionFault}
use Rattle.mh_core.specs.declared.resuming.ResumptionFault.TheVariants.{NoWorker, NoPoint, WrongCount, HistoryFull, TotalTooLarge, NoMemory}
use Rattle.mh_core.specs.Books.{BookState}
use Rattle.mh_core.specs.Limits.{LimitsData}
use Rattle.mh_core.specs.Records.{hits_in, numbers}
use Rattle.mh_core.specs.Replayed.{world}
use Rattle.mh_core.specs.Runtimes.{RuntimeState}

-- the first records: an invalidation of the points, and a flush of the hits by the first worker
abbrev pub resumed_records : List ℕ → List ℕ → List Record
resumed_records points hits = Flushed 0 (hits_in hits) ∷ Invalidated points ∷ []

-- the points that are valid, by number
abbrev pub valid_beside : DefinitionData → List ℕ → List Bool
valid_beside d points = map (λ p. not (member points p)) (numbers (length d.points))

-- the tests of a resumption with this many workers, in order: there is a worker for the hits, the points exist, there is one number of hits
-- for each link, there is room for the first records, and no total exceeds its limit
abbrev pub resumption_tests : DefinitionData → ℕ → LimitsData → List ℕ → List ℕ → Tests ResumptionFault
resumption_tests d workers l points hits =
    test (0 < workers) (only NoWorker)
    (test (All (λ p. p < length d.points) points) (only NoPoint)
    (test (length hits ≡ length (links d)) (only WrongCount)
    (test (length (resumed_records points hits) ≤ l.history) (only HistoryFull)
    (test (All (λ n. n ≤ l.total) hits) (only TotalTooLarge) (no_more (only NoMemory))))))

-- a book of the definition with these first records and hits, and the state that follows from them
pub record IsResumedBook (d : DefinitionData) (workers : ℕ) (l : LimitsData) (points hits : List ℕ) (b : BookState) : Type 0 where
  pub definition : b.definition ≡ d
  pub limits : b.limits ≡ l
  pub records : b.records ≡ resumed_records points hits
  pub world : b.world ≡ world d (resumed_records points hits)
  pub totals : b.totals ≡ resumed_totals hits workers l.total
  pub snapshots : b.snapshots ≡ []
  pub plans : b.plans ≡ []

-- a runtime of that book, with the ledger of each worker
pub record IsResumed (d : DefinitionData) (workers : ℕ) (l : LimitsData) (points hits : List ℕ) (r : RuntimeState) : Type 0 where
  pub book : IsResumedBook d workers l points hits r.book
  pub ledgers : r.ledgers ≡ map (resumed_ledger hits l.ledger) (range_with_len 0 workers)
