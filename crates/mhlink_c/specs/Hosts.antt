-- Machines of C as contracts see them, and the effects of records and flushes.
use Rattle.std.specs.Prelude.{◌≡◌, ◌<◌, ℕ, List, Option, length, slice_set, refl}
use Rattle.std.specs.Coded.{Coded, code_by, coded×, coded_ℕ, coded_list, coded_option}
use Rattle.mh_core.specs.Books.{Takes}
use Rattle.mh_core.specs.Ledgers.{ledger_at, settled}
use Rattle.mh_core.specs.Runtimes.{RefusesFlush, RuntimeState, coded_runtime, flush_of}
use Rattle.mh_core.specs.declared.record.Record.{Record}
use Rattle.mh_core.specs.declared.refusal.Refusal.{Refusal}
use Rattle.mh_json.specs.contracts.json.scope.Scope as scope
use Rattle.mh_json.specs.declared.json.scope.Scope.{Scope}
use Rattle.mhlink_c.specs.declared.failure.Failure.{Failure}
use Rattle.mhlink_c.specs.declared.failure.Failure.TheVariants.{Refused}

-- the runtime, the names that its definition declares, and the text that the last call returned
pub record HostState : Type 0 where
  pub runtime : RuntimeState
  pub scope : Scope
  pub given : Option (List ℕ)

abbrev pub coded_host : Coded HostState
coded_host =
    code_by (RuntimeState × (Scope × Option (List ℕ))) (coded× coded_runtime (coded× scope.the_row.coded (coded_option (coded_list coded_ℕ))))
    (λ h. (h.runtime, (h.scope, h.given))) (λ p. record { runtime = p.0; scope = p.1.0; given = p.1.1 }) (λ _. refl)

-- the names and the text of the last call stay
pub record KeepsNamesAndText (h new : HostState) : Type 0 where
  pub scope : new.scope ≡ h.scope
  pub given : new.given ≡ h.given

-- exactly this record is appended, which passes its tests, and the ledgers stay
pub record Records (h new : HostState) (e : Record) : Type 0 where
  pub taken : Takes h.runtime.book 0 e new.runtime.book
  pub ledgers : new.runtime.ledgers ≡ h.runtime.ledgers
  pub kept : KeepsNamesAndText h new

-- the hits of a worker go to the totals, and its ledger has no unflushed hits
pub record Flushes (h : HostState) (w : ℕ) (new : HostState) : Type 0 where
  pub known : w < length h.runtime.ledgers
  pub taken : Takes h.runtime.book 0 (flush_of h.runtime w) new.runtime.book
  pub ledgers : new.runtime.ledgers ≡ slice_set h.runtime.ledgers w (settled (ledger_at h.runtime.ledgers w))
  pub kept : KeepsNamesAndText h new

abbrev pub RefusesToFlush : HostState → ℕ → Failure → Type 0
RefusesToFlush h w e = (told : Refusal) × ((e ≡ Refused told) × RefusesFlush h.runtime 0 w told)
