-- Opening a machine or a desk, and its failures.
use Rattle.std.specs.Prelude.{◌≡◌, ◌⊎◌, ◌<◌, ◌≤◌, ℕ, List, None, Ok}
use Rattle.mh_core.specs.Limits.{IsLimits, LimitsData}
use Rattle.mh_core.specs.Runtimes.{opened_runtime}
use Rattle.mh_base.specs.Limits.{most_workers}
use Rattle.mh_json.specs.declared.json.declarations.Declarations.{Declarations}
use Rattle.mhlink_c.specs.Hosts.{HostState}
use Rattle.mhlink_c.specs.Inputs.{IsFaultOf, declarations_in}
use Rattle.mhlink_c.specs.declared.failure.Failure.{Failure}
use Rattle.mhlink_c.specs.declared.failure.Failure.TheVariants.{BadLimits}
use Rattle.mhlink_c.specs.declared.texts.MhlinkLimits.{MhlinkLimits}

abbrev pub limits_of : MhlinkLimits → LimitsData
limits_of l = record { history = l.history; ledger = l.ledger; total = l.total }

-- the limits and the number of workers are in their ranges
pub record AreLimits (workers : ℕ) (given : MhlinkLimits) : Type 0 where
  pub limits : IsLimits (limits_of given)
  pub some : 0 < workers
  pub few : workers ≤ most_workers

-- the runtime of the definition, its names, and no text
abbrev pub opened_host : Declarations → ℕ → MhlinkLimits → HostState
opened_host d workers limits = record { runtime = opened_runtime d.definition workers (limits_of limits); scope = d.scope; given = None }

-- the machine or desk of the definition that the text reads as
abbrev pub Opens : List ℕ → ℕ → MhlinkLimits → (Declarations → Type 0) → Type 0
Opens text workers limits Opened =
    (d : Declarations) × ((declarations_in text ≡ Ok d) × (AreLimits workers limits × Opened d))

-- a limit or the number of workers is out of its range; or else the text has a fault, or memory ran out
abbrev pub RefusesOpening : List ℕ → ℕ → MhlinkLimits → Failure → Type 0
RefusesOpening text workers limits e =
    ((AreLimits workers limits → ⊥) × (e ≡ BadLimits)) ⊎ (AreLimits workers limits × IsFaultOf (declarations_in text) e)
