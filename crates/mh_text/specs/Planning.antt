-- The input and the output of planning.
use Rattle.std.specs.Prelude.{ℕ, ◌≡◌, ◌⊎◌, Bool, true, false, List, [], ◌∷◌, ◌++◌, Option, None, Result, Ok, Err, IfSome}
use Rattle.std.specs.Io.KnownBytes.{Keeps}
use Rattle.serde_json.specs.Data.{Data}
use Rattle.mh_network.specs.Problems.{ProblemData}
use Rattle.mh_network.specs.Selection.{IsLeast, member}
use Rattle.mh_cert.specs.declared.plan.Plan.{Plan}
use Rattle.mh_cert.specs.Plans.{Matches}
use Rattle.mh_plan.specs.Phases.{ArePhases}
use Rattle.mh_json.specs.declared.fault.Fault.{Fault}
use Rattle.mh_json.specs.declared.fault.TextFault.TheVariants.{WriteFailed}
use Rattle.mh_text.specs.declared.streams.planning.PlanOptions.{PlanOptions}
use Rattle.mh_json.specs.declared.json.problem.ProblemRows.{ProblemRows}
use Rattle.mh_text.specs.Bytes.{AppendsFront}
use Rattle.mh_text.specs.Output.{IsUnread}
use Rattle.mh_json.specs.Gives.{outside}
use Rattle.mh_cert.specs.Display.{plan_text}
use Rattle.mh_json.specs.PlanData.{plan_json}
use Rattle.mh_text.specs.PlanLines.{phases_text}
use Rattle.mh_json.specs.Inputs.{json_of_input}
use Rattle.mh_json.specs.Problems.{rows_by, IsMade, IsNotMade}

-- a source is this problem
abbrev pub IsProblemBy : {A : Type 0} → (A → Result Data Fault) → A → ProblemData → Type 0
IsProblemBy json source p = (rows : ProblemRows) × (rows_by json None source ≡ Ok rows) × IsMade rows p

-- an input is this problem
abbrev pub IsProblemInput : List ℕ → ProblemData → Type 0
IsProblemInput = IsProblemBy json_of_input

-- the first fault of a source that is not a problem
abbrev pub IsProblemFaultBy : {A : Type 0} → (A → Result Data Fault) → A → Fault → Type 0
IsProblemFaultBy json source e =
    (rows_by json None source ≡ Err e) ⊎ ((rows : ProblemRows) × (rows_by json None source ≡ Ok rows) × IsNotMade rows e)

-- the first fault of an input that is not a problem
abbrev pub IsProblemFault : List ℕ → Fault → Type 0
IsProblemFault = IsProblemFaultBy json_of_input

-- a text with the byte 0x0A, if it is asked for
abbrev pub line_where : Bool → List ℕ → List ℕ
line_where true text = text ++ 10 ∷ []
line_where false text = []

-- the line of a plan, followed by its certificate and its phases, if they are asked for
abbrev pub lines_for : PlanOptions → ProblemData → Plan → List ℕ → List ℕ
lines_for options p plan phases =
    line_where true (plan_text plan) ++ line_where options.certificate (plan_json plan) ++ line_where options.phases (phases_text p phases)

-- the lines of a plan that matches a problem, with its least best links
abbrev pub IsPlanOf : PlanOptions → ProblemData → List ℕ → Type 0
IsPlanOf options p text =
    (plan : Plan) × (phases : List ℕ) × Matches p plan × IsLeast p (member plan.links) × ArePhases p plan.flow phases × (text ≡ lines_for options p plan phases)

-- the same for the problem of a source
abbrev pub IsPlannedBy : {A : Type 0} → (A → Result Data Fault) → PlanOptions → A → List ℕ → Type 0
IsPlannedBy json options source text = (p : ProblemData) × IsProblemBy json source p × IsPlanOf options p text

-- the same for the problem of an input
abbrev pub IsPlanned : PlanOptions → List ℕ → List ℕ → Type 0
IsPlanned = IsPlannedBy json_of_input

-- a write failed after a prefix of a text
abbrev pub IsCutShort : Option (List ℕ) → Option (List ℕ) → Type 0 → Fault → List ℕ → Type 0
IsCutShort old new WriteHasFailed e text = (e ≡ outside WriteFailed) × WriteHasFailed × AppendsFront old new text

-- The state in which a fault leaves the writer: unchanged, or with a prefix of the lines.
abbrev pub FailsPlanBy : {A : Type 0} → (A → Result Data Fault) → PlanOptions → Option A → Option (List ℕ) → Option (List ℕ) → Type 0 → Type 0 → Fault → Type 0
FailsPlanBy json options source old new ReadHasFailed WriteHasFailed e =
    (Keeps old new × IsUnread (IsProblemFaultBy json) source ReadHasFailed e)
    ⊎ ((text : List ℕ) × IfSome source (λ it. IsPlannedBy json options it text) × IsCutShort old new WriteHasFailed e text)

-- the state in which a fault leaves the writer of the plan of an input
abbrev pub FailsPlan : PlanOptions → Option (List ℕ) → Option (List ℕ) → Option (List ℕ) → Type 0 → Type 0 → Fault → Type 0
FailsPlan = FailsPlanBy json_of_input
