-- The input of planning a profile, and its output.
use Rattle.std.specs.Prelude.{ℕ, ◌≡◌, ◌⊎◌, List, [], ◌++◌, Option, cond, IfSome}
use Rattle.std.specs.Io.KnownBytes.{Keeps}
use Rattle.mh_network.specs.Selection.{IsLeast, member}
use Rattle.mh_cert.specs.declared.plan.Plan.{Plan}
use Rattle.mh_cert.specs.Plans.{Matches}
use Rattle.mh_sweep.specs.declared.sweep.Sweep.{Sweep}
use Rattle.mh_text.specs.Output.{IsUnread}
use Rattle.mh_text.specs.Planning.{IsCutShort}
use Rattle.mh_json.specs.PlanData.{plan_json}
use Rattle.mh_json.specs.declared.fault.Fault.{Fault}
use Rattle.mh_profile.specs.declared.named.NamedProblem.{NamedProblem}
use Rattle.mh_profile.specs.declared.planning.ProfileOptions.{ProfileOptions}
use Rattle.mh_profile.specs.Inputs.{IsProfileInput, IsProfileFault}
use Rattle.mh_profile.specs.PlanLines.{line, profile_text}
use Rattle.mh_profile.specs.Sweeps.{IsNotSwept, IsSweepWhere}

-- the lines of a plan with a sweep, and then its certificate, if it is asked for
abbrev pub lines_for : ProfileOptions → NamedProblem → Plan → Option Sweep → List ℕ
lines_for options n plan sweep = profile_text n plan sweep ++ cond options.certificate (line (plan_json plan)) []

-- the lines of a plan that matches a problem and has its minimal optimum, with the sweep of the problem if it is asked for
abbrev pub IsPlanOf : ProfileOptions → NamedProblem → List ℕ → Type 0
IsPlanOf options n text =
    (plan : Plan) × (sweep : Option Sweep) × Matches n.problem plan × IsLeast n.problem (member plan.links)
    × IsSweepWhere options.sweep n.problem sweep × (text ≡ lines_for options n plan sweep)

-- the same for the problem of an input
abbrev pub IsPlanned : ProfileOptions → List ℕ → List ℕ → Type 0
IsPlanned options input text = (n : NamedProblem) × IsProfileInput input n × IsPlanOf options n text

-- the first fault of an input as a profile; or, if it is a profile, that its gains are too large for the sweep that is asked for
abbrev pub IsPlanFault : ProfileOptions → List ℕ → Fault → Type 0
IsPlanFault options input e = IsProfileFault input e ⊎ ((n : NamedProblem) × IsProfileInput input n × IsNotSwept options.sweep n e)

-- the state of the writer after a fault: as before, or with a prefix of the lines
abbrev pub FailsPlan : ProfileOptions → Option (List ℕ) → Option (List ℕ) → Option (List ℕ) → Type 0 → Type 0 → Fault → Type 0
FailsPlan options input old new ReadHasFailed WriteHasFailed e =
    (Keeps old new × IsUnread (IsPlanFault options) input ReadHasFailed e)
    ⊎ ((text : List ℕ) × IfSome input (λ bytes. IsPlanned options bytes text) × IsCutShort old new WriteHasFailed e text)
