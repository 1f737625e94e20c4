-- The invariant of a machine: a runtime in the state that its history has led to.
use Rattle.std.specs.Prelude.{◌≡◌, ℕ, ◌<◌, ◌≤◌, List, length, refl}
use Rattle.std.specs.Coded.{Coded, code_by, coded×, coded_ℕ}
use Rattle.mh_ledger.specs.Ledgers.{LedgerState, ledger_at}
use Rattle.mh_site.specs.Defined.{DefinitionData, coded_definition}
use Rattle.mh_core.specs.declared.event.Event.{Event}
use Rattle.mh_core.specs.Histories.{coded_events, records}
use Rattle.mh_core.specs.Hits.{unflushed_hits}
use Rattle.mh_core.specs.Legal.{MachineState}
use Rattle.mh_core.specs.Limits.{IsLimits, LimitsData, coded_limits}
use Rattle.mh_core.specs.Runtimes.{RuntimeState}

-- each worker's ledger has the hits of its calls since its last flush
abbrev pub AreCounted : DefinitionData → List Event → List LedgerState → Type 0
AreCounted d h ledgers = (w : ℕ) → w < length ledgers → (ledger_at ledgers w).unflushed ≡ unflushed_hits d h w

-- its book has the records of its history, which is within the limit
pub record IsMachine (r : RuntimeState) (h : List Event) : Type 0 where
  pub limits : IsLimits r.book.limits
  pub records : r.book.records ≡ records r.book.definition h
  pub few : length h ≤ r.book.limits.history
  pub counted : AreCounted r.book.definition h r.ledgers

abbrev pub machine_of : RuntimeState → List Event → MachineState
machine_of r h = record { setting = record { definition = r.book.definition; workers = length r.ledgers; limits = r.book.limits }; history = h }

abbrev pub coded_machine : Coded MachineState
coded_machine =
    code_by ((DefinitionData × (ℕ × LimitsData)) × List Event) (coded× (coded× coded_definition (coded× coded_ℕ coded_limits)) coded_events)
    (λ m. ((m.setting.definition, (m.setting.workers, m.setting.limits)), m.history))
    (λ p. record { setting = record { definition = p.0.0; workers = p.0.1.0; limits = p.0.1.1 }; history = p.1 }) (λ _. refl)
