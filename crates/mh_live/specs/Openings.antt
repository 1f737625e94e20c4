-- The view of an opening that contracts use.
use Rattle.std.specs.Prelude.{ℕ, ◌≡◌, ◌<◌, ◌≤◌, List, length, map, refl}
use Rattle.std.specs.Coded.{Coded, code_by, coded×, coded_ℕ}
use Rattle.std.specs.List.{range_with_len}
use Rattle.logbook.specs.Pages.{Book, book_coded}
use Rattle.mh_ledger.specs.Ledgers.{LedgerState, AreHeld, opened_ledger}
use Rattle.mh_site.specs.Defined.{DefinitionData, coded_definition}
use Rattle.mh_site.specs.Lawful.{IsDefinition}
use Rattle.mh_site.specs.Links.{links}
use Rattle.mh_site.specs.Worlds.{WorldState, opened}
use Rattle.mh_core.specs.Books.{BookState, opened_book}
use Rattle.mh_core.specs.Limits.{LimitsData, coded_limits}
use Rattle.mh_base.specs.Limits.{most_workers}

-- the list of controls that it begins, the definition, the number of workers, and the limits
pub record OpeningState : Type 0 where
  pub name : Book
  pub definition : DefinitionData
  pub workers : ℕ
  pub limits : LimitsData

abbrev pub coded_opening : Coded OpeningState
coded_opening =
    code_by ((Book × DefinitionData) × (ℕ × LimitsData)) (coded× (coded× book_coded coded_definition) (coded× coded_ℕ coded_limits))
    (λ o. ((o.name, o.definition), (o.workers, o.limits))) (λ p. record { name = p.0.0; definition = p.0.1; workers = p.1.0; limits = p.1.1 }) (λ _. refl)

-- its parts: a book without records, ledgers without hits, two worlds before any control, and the definition
pub record IsOpening (o : OpeningState) (b : BookState) (ledgers : List LedgerState) (first second : WorldState) (d : DefinitionData) : Type 0 where
  pub book : b ≡ opened_book o.definition o.workers o.limits
  pub ledgers_are : ledgers ≡ map (opened_ledger (length (links o.definition)) o.limits.ledger) (range_with_len 0 o.workers)
  pub held : AreHeld b.totals ledgers
  pub first_is : first ≡ opened o.definition
  pub second_is : second ≡ opened o.definition
  pub definition_is : d ≡ o.definition
  pub lawful : IsDefinition o.definition
  pub one : 0 < o.workers
  pub few : o.workers ≤ most_workers
