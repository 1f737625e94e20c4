-- The state after all passes are returned.
use Rattle.std.specs.Prelude.{ℕ, ◌≡◌, ◌⊎◌, ◌+◌, ◌==◌, ◌<◌, ◌≤◌, List, [], ◌∷◌, length, reverse, refl}
use Rattle.std.specs.Coded.{Coded, code_by, coded×, coded_ℕ, coded_list}
use Rattle.std.specs.List.{All, count_by, sum_by}
use mathlib.Core.List.{IsPrefix}
use Rattle.mh_ledger.specs.Ledgers.{TotalsState, Holds, at, made}
use Rattle.mh_site.specs.Defined.{DefinitionData}
use Rattle.mh_site.specs.Links.{links}
use Rattle.mh_site.specs.declared.control.Control.{Control}
use Rattle.mh_core.specs.Books.{BookState, IsBook, coded_book}
use Rattle.mh_core.specs.Limits.{LimitsData}
use Rattle.mh_core.specs.Renewals.{MeansTheSame, fallen, renewed}
use Rattle.mh_core.specs.Replayed.{controls}
use Rattle.mh_core.specs.declared.record.Record.TheVariants.{Invalidated}
use Rattle.mh_live.specs.Limits.{most_hits_of_all}
use Rattle.mh_live.specs.Offices.{AreTotalsOf, list_of}
use Rattle.mh_live.specs.Openings.{OpeningState}
use Rattle.mh_live.specs.Passes.{PassState}
use Rattle.mh_live.specs.Pasts.{coded_controls}
use Rattle.mh_live.specs.declared.settle_fault.SettleFault.{SettleFault}
use Rattle.mh_live.specs.declared.settle_fault.SettleFault.TheVariants.{MissingPass, NoMemory}

-- each worker has exactly one pass among them, and the totals hold the ledgers of all
pub record AreBack (t : TotalsState) (passes : List PassState) : Type 0 where
  pub once : (w : ℕ) → w < length t.shares → count_by (λ p. p.ledger.worker == w) passes ≡ 1
  pub held : All (λ p. Holds t p.ledger) passes

-- the hits of a link that the passes have not flushed
abbrev pub unflushed_by : List PassState → ℕ → ℕ
unflushed_by passes j = sum_by (λ p. at p.ledger.unflushed j) passes

-- all hits of a link that the passes made
abbrev pub made_by : List PassState → ℕ → ℕ
made_by passes j = sum_by (λ p. made p.ledger j) passes

-- of the list that the pass has seen and this list, one is a prefix of the other
abbrev pub IsWithin : List Control → PassState → Type 0
IsWithin front p = IsPrefix p.seen front ⊎ IsPrefix front p.seen

-- the book, for each link the hits that no worker flushed, and the list of controls
pub record SettledState : Type 0 where
  pub book : BookState
  pub unflushed : List ℕ
  pub front : List Control

abbrev pub coded_settled : Coded SettledState
coded_settled =
    code_by (BookState × (List ℕ × List Control)) (coded× coded_book (coded× (coded_list coded_ℕ) coded_controls)) (λ s. (s.book, (s.unflushed, s.front)))
    (λ p. record { book = p.0; unflushed = p.1.0; front = p.1.1 }) (λ _. refl)

-- as many links as are declared, with sums that can be added, and the list of the book's records
pub record IsSettled (d : DefinitionData) (l : LimitsData) (workers : ℕ) (s : SettledState) : Type 0 where
  pub lawful : IsBook s.book
  pub definition : s.book.definition ≡ d
  pub limits : s.book.limits ≡ l
  pub shares : length s.book.totals.shares ≡ workers
  pub links_are : length s.unflushed ≡ length (links d)
  pub within : All (λ n. n ≤ most_hits_of_all) s.unflushed
  pub shows : s.front ≡ list_of s.book

-- an opening for this many workers, within a book's limits, and the points that its office invalidates first: calls keep their meaning
pub record Reopens (again : List ℕ) (workers : ℕ) (b : BookState) (o : OpeningState) (invalid : List ℕ) : Type 0 where
  pub definition : o.definition ≡ renewed b.definition b.records again
  pub workers_are : o.workers ≡ workers
  pub limits : o.limits ≡ b.limits
  pub invalid_is : invalid ≡ fallen b.definition b.records again
  pub numbers : links o.definition ≡ links b.definition
  pub means : (new : BookState) → new.definition ≡ o.definition → new.records ≡ Invalidated invalid ∷ [] → MeansTheSame again b new

-- the hits of each link that these passes made are its total and the hits that they did not flush
pub record Settles (d : DefinitionData) (passes : List PassState) (s : SettledState) : Type 0 where
  pub back : AreBack s.book.totals passes
  pub unflushed_is : (j : ℕ) → j < length (links d) → at s.unflushed j ≡ unflushed_by passes j
  pub made_is : (j : ℕ) → j < length (links d) → at s.book.totals.total j + at s.unflushed j ≡ made_by passes j
  pub fronts : All (IsWithin s.front) passes

-- by these totals not all passes are returned; or they are, and memory ran out
abbrev pub IsUnsettledBy : TotalsState → List PassState → SettleFault → Type 0
IsUnsettledBy t passes MissingPass = AreBack t passes → ⊥
IsUnsettledBy t passes NoMemory = AreBack t passes

-- why passes are not settled, by the totals of some legal records: of their list and what each pass has seen one is a prefix of the other
pub record IsUnsettled (d : DefinitionData) (l : LimitsData) (workers : ℕ) (passes : List PassState) (fault : SettleFault) : Type 0 where
  pub totals : TotalsState
  pub are : AreTotalsOf d l workers totals
  pub fronts : All (IsWithin (reverse (controls d are.records))) passes
  pub told : IsUnsettledBy totals passes fault
