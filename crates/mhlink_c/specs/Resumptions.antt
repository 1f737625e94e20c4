-- Machines that continue an earlier one, and the failures to open them.
use Rattle.std.specs.Prelude.{◌≡◌, ◌⊎◌, ℕ, List, Option, None, Ok}
use Rattle.mh_base.specs.Tests.{Refuses}
use Rattle.mh_core.specs.Resumptions.{IsResumed, resumption_tests}
use Rattle.mh_core.specs.declared.refusal.Refusal.TheVariants as refusal
use Rattle.mh_core.specs.declared.resuming.ResumptionFault.{ResumptionFault}
use Rattle.mh_core.specs.declared.resuming.ResumptionFault.TheVariants.{NoWorker, NoPoint, WrongCount, HistoryFull, TotalTooLarge, NoMemory}
use Rattle.mh_json.specs.declared.json.declarations.Declarations.{Declarations}
use Rattle.mhlink_c.specs.Hosts.{HostState}
use Rattle.mhlink_c.specs.Inputs.{IsFaultOf, declarations_in}
use Rattle.mhlink_c.specs.Opening.{AreLimits, Opens, limits_of}
use Rattle.mhlink_c.specs.Statuses.{no_memory}
use Rattle.mhlink_c.specs.declared.failure.Failure.{Failure}
use Rattle.mhlink_c.specs.declared.failure.Failure.TheVariants.{Refused, Unknown, BadLimits}
use Rattle.mhlink_c.specs.declared.texts.MhlinkLimits.{MhlinkLimits}

-- a resumption's fault; a wrong number of totals is unknown
abbrev pub of_resumption : ResumptionFault → Failure
of_resumption NoWorker = BadLimits
of_resumption NoPoint = Refused refusal.NoPoint
of_resumption WrongCount = Unknown
of_resumption HistoryFull = Refused refusal.HistoryFull
of_resumption TotalTooLarge = Refused refusal.TotalTooLarge
of_resumption NoMemory = no_memory

-- a runtime of the definition with these invalid points and totals, the names, and no text
pub record IsResumedHost (d : Declarations) (workers : ℕ) (limits : MhlinkLimits) (invalid totals : List ℕ) (h : HostState) : Type 0 where
  pub runtime : IsResumed d.definition workers (limits_of limits) invalid totals h.runtime
  pub scope : h.scope ≡ d.scope
  pub given : h.given ≡ None

-- the machine of the definition that the text reads as
abbrev pub Resumes : List ℕ → ℕ → MhlinkLimits → List ℕ → List ℕ → HostState → Type 0
Resumes text workers limits invalid totals h = Opens text workers limits (λ d. IsResumedHost d workers limits invalid totals h)

-- the first failing test of the resumption
abbrev pub RefusesToResume : Declarations → ℕ → MhlinkLimits → List ℕ → List ℕ → Failure → Type 0
RefusesToResume d workers limits invalid totals e =
    (told : ResumptionFault) × ((e ≡ of_resumption told) × Refuses (resumption_tests d.definition workers (limits_of limits) invalid totals) told)

-- the first that is so: a limit or the number of workers is out of its range, the text has a fault, a test fails
abbrev pub RefusesResuming : List ℕ → ℕ → MhlinkLimits → List ℕ → List ℕ → Failure → Type 0
RefusesResuming text workers limits invalid totals e =
    ((AreLimits workers limits → ⊥) × (e ≡ BadLimits))
    ⊎ (AreLimits workers limits
    × (IsFaultOf (declarations_in text) e ⊎ ((d : Declarations) × ((declarations_in text ≡ Ok d) × RefusesToResume d workers limits invalid totals e))))
