-- Extensions of machines by points and sites, and their failures.
use Rattle.std.specs.Prelude.{◌≡◌, ◌⊎◌, ℕ, List, Ok, length, map}
use Rattle.mh_ledger.specs.Extensions.{extended_ledger}
use Rattle.mh_core.specs.Extensions.{Extends, GoesOn, RefusesExtension, more_links}
use Rattle.mh_core.specs.declared.extending.ExtensionFault.{ExtensionFault}
use Rattle.mh_core.specs.declared.extending.ExtensionFault.TheVariants.{HistoryFull, Definition}
use Rattle.mh_core.specs.declared.refusal.Refusal.TheVariants as refusal
use Rattle.mh_json.specs.Gives.{of_definition}
use Rattle.mhlink_c.specs.Further.{further_in}
use Rattle.mhlink_c.specs.Hosts.{HostState}
use Rattle.mhlink_c.specs.Inputs.{IsFaultOf}
use Rattle.mhlink_c.specs.Renewals.{IsFresh}
use Rattle.mhlink_c.specs.Statuses.{of_input}
use Rattle.mhlink_c.specs.declared.failure.Failure.{Failure}
use Rattle.mhlink_c.specs.declared.failure.Failure.TheVariants.{Refused}
use Rattle.mhlink_c.specs.declared.further.Further.{Further}

-- an extension's fault, that of the longer definition as one of a text
abbrev pub of_extension : ExtensionFault → Failure
of_extension HistoryFull = Refused refusal.HistoryFull
of_extension (Definition cause) = of_input (of_definition cause)

-- a new history begins over the longer definition: existing sites go on, all hits are kept, trees may use other names, and the text of the
-- last call stays
pub record GrowsBy (h : HostState) (further : Further) (new : HostState) : Type 0 where
  pub extends : Extends further.points further.sites h.runtime.book new.runtime.book
  pub goes_on : GoesOn h.runtime.book new.runtime.book
  pub ledgers : new.runtime.ledgers ≡ map (extended_ledger (more_links h.runtime.book.definition new.runtime.book.definition)) h.runtime.ledgers
  pub fresh : IsFresh new.runtime.book (length h.runtime.ledgers)
  pub scope : new.scope ≡ further.scope
  pub given : new.given ≡ h.given

-- the first failing test of the extension
abbrev pub RefusesToGrow : HostState → Further → Failure → Type 0
RefusesToGrow h further e =
    (told : ExtensionFault) × ((e ≡ of_extension told) × RefusesExtension h.runtime.book (length h.runtime.ledgers) further.points further.sites told)

-- by the additions of the text to the definition
abbrev pub IsExtended : HostState → List ℕ → HostState → Type 0
IsExtended h text new =
    (further : Further) × ((further_in h.runtime.book.definition text ≡ Ok further) × GrowsBy h further new)

-- the fault of the text, or the first failing test of the extension
abbrev pub RefusesExtending : HostState → List ℕ → Failure → Type 0
RefusesExtending h text e =
    IsFaultOf (further_in h.runtime.book.definition text) e
    ⊎ ((further : Further) × ((further_in h.runtime.book.definition text ≡ Ok further) × RefusesToGrow h further e))
