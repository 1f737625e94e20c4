-- The input, the verdict and the output of a check.
use Rattle.std.specs.Prelude.{ℕ, ◌≡◌, ◌⊎◌, List, [], ◌∷◌, ◌++◌, Option, Some, Result, Ok, Err, IfSome, codes}
use Rattle.std.specs.Io.KnownBytes.{Keeps}
use Rattle.mh_network.specs.Problems.{ProblemData}
use Rattle.mh_network.specs.Selection.{IsBest, member}
use Rattle.mh_base.specs.Tests.{Passes, Refuses}
use Rattle.mh_cert.specs.declared.plan.Plan.{Plan}
use Rattle.mh_cert.specs.Plans.{Matches, plan_tests, check_fault_text}
use Rattle.mh_json.specs.declared.fault.Fault.{Fault}
use Rattle.mh_json.specs.declared.fault.TextFault.TheVariants.{WriteFailed}
use Rattle.mh_json.specs.declared.json.problem.ProblemRows.{ProblemRows}
use Rattle.mh_text.specs.declared.lines.verdict.Verdict.{Verdict}
use Rattle.mh_text.specs.declared.lines.verdict.Verdict.TheVariants.{Accepted, Refused}
use Rattle.mh_text.specs.Bytes.{AppendsFront}
use Rattle.mh_text.specs.Output.{IsUnread}
use Rattle.mh_json.specs.Gives.{outside}
use Rattle.mh_json.specs.Inputs.{json_of_input}
use Rattle.mh_json.specs.Plans.{plan_by}
use Rattle.mh_json.specs.Problems.{rows_by, IsMade, IsNotMade}
use Rattle.mh_json.specs.declared.key.Field.TheVariants as field
use Rattle.serde_json.specs.Data.{Data}
use Rattle.mh_json.specs.Versions.{version_tests}

-- the rows that are read make the problem, and the plan is the one that is read
abbrev pub Holds : Result ProblemRows Fault → Result Plan Fault → ProblemData → Plan → Type 0
Holds problem read p plan = (rows : ProblemRows) × (problem ≡ Ok rows) × IsMade rows p × (read ≡ Ok plan)

-- the first fault of both: the rows cannot be read, or do not make a problem, or otherwise the plan cannot be read
abbrev pub IsFirstOf : Result ProblemRows Fault → Result Plan Fault → Fault → Type 0
IsFirstOf problem read e =
    (problem ≡ Err e)
    ⊎ ((rows : ProblemRows) × (problem ≡ Ok rows) × (IsNotMade rows e ⊎ (Passes (version_tests rows.version rows.links rows.costs) × (read ≡ Err e))))

-- a source of a check has its problem at one key, and the plan at another
abbrev pub IsClaimBy : {A : Type 0} → (A → Result Data Fault) → A → ProblemData → Plan → Type 0
IsClaimBy json source p plan = Holds (rows_by json (Some (codes "problem")) source) (plan_by json (Some (codes "plan")) source) p plan

-- an input of a check has both
abbrev pub IsClaim : List ℕ → ProblemData → Plan → Type 0
IsClaim = IsClaimBy json_of_input

-- the first fault of such a source
abbrev pub IsClaimFaultBy : {A : Type 0} → (A → Result Data Fault) → A → Fault → Type 0
IsClaimFaultBy json source e = IsFirstOf (rows_by json (Some (codes "problem")) source) (plan_by json (Some (codes "plan")) source) e

-- the first fault of an input of a check
abbrev pub IsClaimFault : List ℕ → Fault → Type 0
IsClaimFault = IsClaimFaultBy json_of_input

-- A plan is accepted if it matches its problem, and its links are then best; otherwise the verdict names its first part that is wrong.
abbrev pub IsFound : ProblemData → Plan → Verdict → Type 0
IsFound p plan Accepted = Matches p plan × IsBest p (member plan.links)
IsFound p plan (Refused cause) = Refuses (plan_tests p plan) cause × (Matches p plan → ⊥)

-- the verdict of a check of a source
abbrev pub IsVerdictBy : {A : Type 0} → (A → Result Data Fault) → A → Verdict → Type 0
IsVerdictBy json source verdict = (p : ProblemData) × (plan : Plan) × IsClaimBy json source p plan × IsFound p plan verdict

-- the verdict of a check of an input
abbrev pub IsVerdict : List ℕ → Verdict → Type 0
IsVerdict = IsVerdictBy json_of_input

-- the text of the verdict, and the byte 0x0A
abbrev pub verdict_line : Verdict → List ℕ
verdict_line Accepted = codes "accepted" ++ 10 ∷ []
verdict_line (Refused cause) = codes "refused " ++ check_fault_text cause ++ 10 ∷ []

-- a write failed after a prefix of the line of a verdict
abbrev pub IsCutOff : Option (List ℕ) → Option (List ℕ) → Type 0 → Fault → Verdict → Type 0
IsCutOff old new WriteHasFailed e verdict =
    (e ≡ outside WriteFailed) × WriteHasFailed × AppendsFront old new (verdict_line verdict)

-- The state in which a fault leaves the writer: unchanged, or with a prefix of the line.
abbrev pub FailsCheckBy : {A : Type 0} → (A → Result Data Fault) → Option A → Option (List ℕ) → Option (List ℕ) → Type 0 → Type 0 → Fault → Type 0
FailsCheckBy json source old new ReadHasFailed WriteHasFailed e =
    (Keeps old new × IsUnread (IsClaimFaultBy json) source ReadHasFailed e)
    ⊎ ((verdict : Verdict) × IfSome source (λ it. IsVerdictBy json it verdict) × IsCutOff old new WriteHasFailed e verdict)

-- the state in which a fault leaves the writer of a check of an input
abbrev pub FailsCheck : Option (List ℕ) → Option (List ℕ) → Option (List ℕ) → Type 0 → Type 0 → Fault → Type 0
FailsCheck = FailsCheckBy json_of_input
