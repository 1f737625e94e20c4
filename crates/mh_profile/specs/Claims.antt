-- An input of a profile and a plan, and the verdict of its check.
use Rattle.std.specs.Prelude.{ℕ, ◌≡◌, ◌==◌, ◌≤◌, ◌<◌, ◌⊎◌, ◌||◌, Bool, List, drop, length, not, take, Option, Some, None, Result, Ok, Err, IfSome, codes}
use Rattle.std.specs.Io.KnownBytes.{Keeps}
use Rattle.std.specs.List.{IsAfterLastMatch}
use Rattle.serde_json.specs.Data.{Data}
use Rattle.serde_json.specs.Find.{get}
use Rattle.mh_network.specs.Problems.{ProblemData}
use Rattle.mh_cert.specs.declared.plan.Plan.{Plan}
use Rattle.mh_text.specs.Checks.{IsCutOff, IsFound}
use Rattle.mh_json.specs.Gives.{◌>>=◌, at_place, too_long, outside}
use Rattle.mh_json.specs.Inputs.{json_in}
use Rattle.mh_json.specs.Misreads.{MisreadData}
use Rattle.mh_text.specs.Output.{IsUnread}
use Rattle.mh_json.specs.Plans.{plan_of}
use Rattle.mh_json.specs.declared.fault.Fault.{Fault}
use Rattle.mh_text.specs.declared.lines.verdict.Verdict.{Verdict}
use Rattle.mh_profile.specs.Inputs.{IsProfileFault, IsProfileInput}
use Rattle.mh_profile.specs.Limits.{most_in_claim}
use Rattle.mh_profile.specs.Lines.{is_space, lines_of}
use Rattle.mh_profile.specs.declared.named.NamedProblem.{NamedProblem}

-- a byte that is neither white space nor the end of a line
abbrev pub is_said : ℕ → Bool
is_said b = not (is_space b || (b == 10))

-- the last line of an input that is not blank, without the white space at its end, and the lines before it; both are empty if all lines are blank
abbrev pub IsParted : List ℕ → List ℕ → List ℕ → Type 0
IsParted input lines line =
    (end start : ℕ) × IsAfterLastMatch is_said input end × IsAfterLastMatch (λ b. b == 10) (take end input) start
    × (lines ≡ take start (take end input)) × (line ≡ drop start (take end input))

-- the value of the key `plan`, or the value itself if it has no such key
abbrev pub claimed_where : Data → Option Data → Result Plan MisreadData
claimed_where d None = plan_of d
claimed_where d (Some plan) = plan_of plan

-- the plan that this value is
abbrev pub claimed_plan : Data → Result Plan MisreadData
claimed_plan d = claimed_where d (get (codes "plan") d)

-- the plan of a line
abbrev pub plan_in_line : List ℕ → Result Plan MisreadData
plan_in_line line = json_in line >>= claimed_plan

-- the plan of the line that follows these lines, at its number
abbrev pub plan_behind : List ℕ → List ℕ → Result Plan Fault
plan_behind lines line = at_place (length (lines_of lines)) (plan_in_line line)

-- lines are this problem, and the line that follows them is this plan
abbrev pub IsClaim : List ℕ → List ℕ → ProblemData → Plan → Type 0
IsClaim lines line p plan = (n : NamedProblem) × IsProfileInput lines n × (p ≡ n.problem) × (plan_behind lines line ≡ Ok plan)

-- the first fault of both
abbrev pub IsClaimFault : List ℕ → List ℕ → Fault → Type 0
IsClaimFault lines line e = IsProfileFault lines e ⊎ ((n : NamedProblem) × IsProfileInput lines n × (plan_behind lines line ≡ Err e))

-- an input within the limit is a profile followed by a plan
abbrev pub IsReadClaim : List ℕ → ProblemData → Plan → Type 0
IsReadClaim input p plan = (length input ≤ most_in_claim) × ((lines line : List ℕ) × IsParted input lines line × IsClaim lines line p plan)

-- the fault of an input that exceeds the limit, and otherwise its first fault
abbrev pub IsReadClaimFault : List ℕ → Fault → Type 0
IsReadClaimFault input e =
    ((most_in_claim < length input) × (e ≡ outside too_long))
    ⊎ ((length input ≤ most_in_claim) × ((lines line : List ℕ) × IsParted input lines line × IsClaimFault lines line e))

-- the verdict on such an input
abbrev pub IsVerdict : List ℕ → Verdict → Type 0
IsVerdict input verdict = (p : ProblemData) × (plan : Plan) × IsReadClaim input p plan × IsFound p plan verdict

-- the state of the writer after a fault: as before, or with a prefix of the line
abbrev pub FailsCheck : Option (List ℕ) → Option (List ℕ) → Option (List ℕ) → Type 0 → Type 0 → Fault → Type 0
FailsCheck input old new ReadHasFailed WriteHasFailed e =
    (Keeps old new × IsUnread IsReadClaimFault input ReadHasFailed e)
    ⊎ ((verdict : Verdict) × IfSome input (λ bytes. IsVerdict bytes verdict) × IsCutOff old new WriteHasFailed e verdict)
