-- Calls of a site over a definition: the conditions for an answer.
use Rattle.std.specs.Prelude.{◌≡◌, ℕ, ◌<◌, ◌≤◌, true, false, List, length}
use Rattle.mh_type.specs.Fits.{Fits}
use Rattle.mh_type.specs.declared.value.Value.{Value}
use Rattle.mh_ledger.specs.Ledgers.{LedgerState, with_hit}
use Rattle.mh_site.specs.Defined.{DefinitionData, site_at}
use Rattle.mh_core.specs.Hits.{hits}
use Rattle.mh_core.specs.declared.caller.CalleeFault.{CalleeFault}
use Rattle.mh_core.specs.declared.caller.CalleeFault.TheVariants.{NoSite, WrongType}
use Rattle.mh_core.specs.declared.refusal.Refusal.{Refusal}
use Rattle.mh_core.specs.declared.refusal.Refusal.TheVariants as refusal

-- the site exists, and the arguments fit its type
pub record IsCallable (d : DefinitionData) (s : ℕ) (a : List Value) : Type 0 where
  pub inside : s < length d.sites
  pub fits : Fits (site_at d s).method_type a

-- the first of the two that fails is reported
abbrev pub RefusesCallee : DefinitionData → ℕ → List Value → CalleeFault → Type 0
RefusesCallee d s a NoSite = length d.sites ≤ s
RefusesCallee d s a WrongType = (s < length d.sites) × (Fits (site_at d s).method_type a → ⊥)

abbrev pub refusal_of_callee : CalleeFault → Refusal
refusal_of_callee NoSite = refusal.NoSite
refusal_of_callee WrongType = refusal.WrongType

-- the link that is hit has one more hit, and no other has
pub record Counts (d : DefinitionData) (s : ℕ) (a : List Value) (l new : LedgerState) : Type 0 where
  pub hit : (j : ℕ) → hits d s a j ≡ true → new ≡ with_hit l j
  pub none : ((j : ℕ) → hits d s a j ≡ false) → new ≡ l
