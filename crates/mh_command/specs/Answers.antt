-- Answers to requests.
use Rattle.std.specs.Prelude.{◌≡◌, ◌⊎◌, ℕ, false, List, [], ◌++◌, Option, Some, None, Result, Ok, Err, IfOk, IfSome}
use Rattle.std.specs.Io.KnownBytes.{Appends, Keeps}
use Rattle.mh_core.specs.declared.event.Event.{Event}
use Rattle.mh_text.specs.Checks.{IsClaimFault, IsVerdict, FailsCheck, verdict_line}
use Rattle.mh_json.specs.Faults.{fault_line}
use Rattle.mh_json.specs.Script.{script_of_input}
use Rattle.mh_text.specs.Output.{first, run_text, IsScriptFault, IsUnread, Failed}
use Rattle.mh_json.specs.Gives.{outside}
use Rattle.mh_json.specs.declared.fault.Fault.{Fault}
use Rattle.mh_text.specs.Planning.{IsPlanned, IsProblemFault, FailsPlan}
use Rattle.mh_text.specs.declared.streams.planning.PlanOptions.{PlanOptions}
use Rattle.mh_text.specs.declared.streams.run.RunOptions.{RunOptions}
use Rattle.mh_json.specs.declared.json.script.Script.{Script}
use Rattle.mh_text.specs.Refused.{refused_behind}
use Rattle.mh_json.specs.declared.refused.RefusedEvent.{RefusedEvent}
use Rattle.mh_text.specs.Steps.{Told, Run}
use Rattle.mh_text.specs.declared.lines.verdict.Verdict.{Verdict}
use Rattle.mh_json.specs.declared.fault.TextFault.TheVariants.{NoReader, WriteFailed}
use Rattle.mh_stress.specs.Stress.{FailsStress, IsScript, IsStressed}
use Rattle.mh_stress.specs.declared.stress.StressOptions.{StressOptions}
use Rattle.mh_profile.specs.Claims as claim
use Rattle.mh_profile.specs.Planning as profile
use Rattle.mh_profile.specs.declared.planning.ProfileOptions.{ProfileOptions}
use Rattle.mh_command.specs.Readings.{fault_explained, form_of, refused_at, unread_fault, unread_in, IsExplainedWith, IsRefusal}
use Rattle.mh_command.specs.Statuses.{status_found}
use Rattle.mh_command.specs.Streams.{IsCut, IsTold}
use Rattle.mh_command.specs.declared.request.Asked.{Asked}
use Rattle.mh_command.specs.declared.request.Request.{Request}
use Rattle.mh_command.specs.declared.request.Request.TheVariants as request

-- the status, the output, the fault whose line is written to the stream of errors, and the events of a run that were refused
pub record Answer : Type 0 where
  pub status : ℕ
  pub output : List ℕ
  pub fault : Option Fault
  pub refused : List RefusedEvent

abbrev pub answered : ℕ → List ℕ → List RefusedEvent → Answer
answered status text refused = record { status = status; output = text; fault = None; refused = refused }

abbrev pub output_alone : ℕ → List ℕ → Answer
output_alone status text = answered status text []

-- the line of a fault of the input
abbrev pub turned_down : Fault → Answer
turned_down e = record { status = 1; output = []; fault = Some e; refused = [] }

-- the line of a fault, if there is one
abbrev pub errors_of : Option Fault → List ℕ
errors_of None = []
errors_of (Some e) = fault_line e

-- a script: the lines of a legal run of it, and its report, if it is asked for; otherwise its first fault
abbrev pub IsRunAnswer : RunOptions → List ℕ → Answer → Type 0
IsRunAnswer options input answer =
    ((script : Script) × (replies : List Told) × (last : List Event) × (script_of_input input ≡ Ok script)
    × Run (first script).setting (first script).history script.steps replies last
    × (answer ≡ answered 0 (run_text options (first script).setting replies last) (refused_behind 0 replies)))
    ⊎ ((e : Fault) × IsScriptFault input e × (answer ≡ turned_down e))

-- a problem with a plan: the line of the verdict; otherwise the first fault
abbrev pub IsCheckAnswer : List ℕ → Answer → Type 0
IsCheckAnswer input answer =
    ((verdict : Verdict) × IsVerdict input verdict × (answer ≡ output_alone (status_found verdict) (verdict_line verdict)))
    ⊎ ((e : Fault) × IsClaimFault input e × (answer ≡ turned_down e))

-- a profile with a plan: the same
abbrev pub IsProfileCheckAnswer : List ℕ → Answer → Type 0
IsProfileCheckAnswer input answer =
    ((verdict : Verdict) × claim.IsVerdict input verdict × (answer ≡ output_alone (status_found verdict) (verdict_line verdict)))
    ⊎ ((e : Fault) × claim.IsReadClaimFault input e × (answer ≡ turned_down e))

-- a problem: the lines of an optimal plan; otherwise the first fault
abbrev pub IsPlanAnswer : PlanOptions → List ℕ → Answer → Type 0
IsPlanAnswer options input answer =
    ((text : List ℕ) × IsPlanned options input text × (answer ≡ output_alone 0 text))
    ⊎ ((e : Fault) × IsProblemFault input e × (answer ≡ turned_down e))

-- a script: the line of the sums of its workers; otherwise its first fault
abbrev pub IsStressAnswer : StressOptions → List ℕ → Answer → Type 0
IsStressAnswer options input answer =
    ((text : List ℕ) × IsStressed options input text × (answer ≡ output_alone 0 text))
    ⊎ ((e : Fault) × IsScriptFault input e × (answer ≡ turned_down e))

-- a profile: the lines of an optimal plan of its problem; otherwise the first fault
abbrev pub IsProfileAnswer : ProfileOptions → List ℕ → Answer → Type 0
IsProfileAnswer options input answer =
    ((text : List ℕ) × profile.IsPlanned options input text × (answer ≡ output_alone 0 text))
    ⊎ ((e : Fault) × profile.IsPlanFault options input e × (answer ≡ turned_down e))

-- the answer to a request if no stream fails and memory does not run out
abbrev pub IsAnswerOf : Request → List ℕ → Answer → Type 0
IsAnswerOf (request.Run options) = IsRunAnswer options
IsAnswerOf request.Check = IsCheckAnswer
IsAnswerOf request.CheckProfile = IsProfileCheckAnswer
IsAnswerOf (request.Plan options) = IsPlanAnswer options
IsAnswerOf (request.Stress options) = IsStressAnswer options
IsAnswerOf (request.Profile options) = IsProfileAnswer options

-- the first fault of the input of a request
abbrev pub IsFaultOf : Request → List ℕ → Fault → Type 0
IsFaultOf (request.Run options) = IsScriptFault
IsFaultOf request.Check = IsClaimFault
IsFaultOf request.CheckProfile = claim.IsReadClaimFault
IsFaultOf (request.Plan options) = IsProblemFault
IsFaultOf (request.Stress options) = IsScriptFault
IsFaultOf (request.Profile options) = profile.IsPlanFault options

-- an input is refused for one of its keys; otherwise there is an answer of the work
abbrev pub IsAnswerUnless : Option ℕ → Request → List ℕ → Answer → Type 0
IsAnswerUnless (Some at) request input answer = answer ≡ turned_down (unread_fault at)
IsAnswerUnless None request input answer = IsAnswerOf request input answer

-- the answer if no stream fails and memory does not run out, before anything is explained
abbrev pub IsAnswerTo : Asked → List ℕ → Answer → Type 0
IsAnswerTo asked input answer = IsAnswerUnless (refused_at asked input) asked.request input answer

-- The lines of `--explain` after the fault of an answer: nothing if it is not asked for, or if the input is accepted, has no unknown key
-- and no event is refused; otherwise the explanation of that fault, the notes of keys, and the explanation of the refused events, unless
-- memory ran out.
pub record IsBeside (asked : Asked) (input : List ℕ) (answer : Answer) (help : List ℕ) : Type 0 where
  pub unexplained : asked.reading.explain ≡ false → help ≡ []
  pub silent : answer.fault ≡ None → unread_in (form_of asked.request) input ≡ None → answer.refused ≡ [] → help ≡ []
  pub explained : IsExplainedWith asked.request input (fault_explained (refused_at asked input) answer.fault) answer.refused help

-- The status is that of such an answer to the input, and its texts were appended to both streams.
abbrev pub Answers : Asked → Option (List ℕ) → ℕ → Option (List ℕ) → Option (List ℕ) → Option (List ℕ) → Option (List ℕ) → Type 0
Answers asked input status output_old output_new errors_old errors_new =
    IfSome input (λ bytes. (answer : Answer) × (help : List ℕ) × IsAnswerTo asked bytes answer × IsBeside asked bytes answer help
    × (answer.status ≡ status) × Appends output_old output_new answer.output × Appends errors_old errors_new (errors_of answer.fault ++ help))

-- the input is refused by an option for reading
abbrev pub IsTurnedDown : List ℕ → Type 0
IsTurnedDown bytes = (asked : Asked) × (answer : Answer) × IsAnswerTo asked bytes answer × (answer.status ≡ 1)

-- all of the refused events are known, or none of them
abbrev pub AreKnown : List RefusedEvent → List RefusedEvent → Type 0
AreKnown refused known = (known ≡ []) ⊎ (known ≡ refused)

-- The work of a request ends with this status and nothing for the stream of errors, its text was appended to the output, and these of
-- its refused events are known.
abbrev pub WorksOn : Request → Option (List ℕ) → List RefusedEvent → Option (List ℕ) → Option (List ℕ) → ℕ → Type 0
WorksOn request input known old new status =
    IfSome input (λ bytes. (text : List ℕ) × (refused : List RefusedEvent) × IsAnswerOf request bytes (answered status text refused)
    × AreKnown refused known × Appends old new text)

-- the work has this answer
abbrev pub Works : Asked → Option (List ℕ) → List RefusedEvent → Option (List ℕ) → Option (List ℕ) → ℕ → Type 0
Works asked input known old new status =
    IfSome input (λ bytes. (text : List ℕ) × (refused : List RefusedEvent) × IsAnswerTo asked bytes (answered status text refused)
    × AreKnown refused known × Appends old new text)

-- The output if a stress ends in a fault; that no reader could be made is possible for a script alone.
abbrev pub FailsAsStress : StressOptions → Option (List ℕ) → Option (List ℕ) → Option (List ℕ) → Type 0 → Type 0 → Fault → Type 0
FailsAsStress options input old new ReadHasFailed WriteHasFailed e =
    FailsStress options input old new ReadHasFailed WriteHasFailed e × (e ≡ outside NoReader → IfSome input IsScript)

-- The output if the work of a request ends in a fault.
abbrev pub FailsOn : Request → Option (List ℕ) → Option (List ℕ) → Option (List ℕ) → Type 0 → Type 0 → Fault → Type 0
FailsOn (request.Run options) = Failed options
FailsOn request.Check = FailsCheck
FailsOn request.CheckProfile = claim.FailsCheck
FailsOn (request.Plan options) = FailsPlan options
FailsOn (request.Stress options) = FailsAsStress options
FailsOn (request.Profile options) = profile.FailsPlan options

-- A fault ends a request: before the work, with nothing written; or in the work, for which the input is then not refused.
abbrev pub FailsIn : Asked → Option (List ℕ) → Option (List ℕ) → Option (List ℕ) → Type 0 → Type 0 → Fault → Type 0
FailsIn asked input old new ReadHasFailed WriteHasFailed e =
    (Keeps old new × IsUnread (IsRefusal asked) input ReadHasFailed e)
    ⊎ (IfSome input (λ bytes. refused_at asked bytes ≡ None) × FailsOn asked.request input old new ReadHasFailed WriteHasFailed e)

-- A request ends in a fault: its own, and no event is known to be refused; or that of the last flush, and the whole answer is then
-- written.
abbrev pub EndsIn : Asked → Option (List ℕ) → List RefusedEvent → Option (List ℕ) → Option (List ℕ) → Type 0 → Type 0 → Fault → Type 0
EndsIn asked input known old new ReadHasFailed WriteHasFailed e =
    (FailsIn asked input old new ReadHasFailed WriteHasFailed e × (known ≡ []))
    ⊎ ((e ≡ outside WriteFailed) × WriteHasFailed × ((status : ℕ) × Works asked input known old new status))

-- the fault of an end
abbrev pub fault_at : Result ℕ Fault → Option Fault
fault_at (Ok status) = None
fault_at (Err e) = Some e

-- The notes at an end over an input, of whose run these events are known to be refused: nothing if nothing is to be explained, or if the
-- input is accepted, has no unknown key and there are none of these; otherwise the explanation of its fault and of these.
pub record IsHelp (asked : Asked) (input : Option (List ℕ)) (end : Result ℕ Fault) (known : List RefusedEvent) (help : List ℕ) : Type 0 where
  pub unexplained : asked.reading.explain ≡ false → help ≡ []
  pub silent : IfOk end (λ status. IfSome input (λ bytes. unread_in (form_of asked.request) bytes ≡ None → known ≡ [] → help ≡ []))
  pub explained : IfSome input (λ bytes. IsExplainedWith asked.request bytes (fault_explained (refused_at asked bytes) (fault_at end)) known help)

-- A request over an input, from the output o to n and from the errors e to f. The numbers are the failures of the errors.
module _ (asked : Asked) (input o n : Option (List ℕ)) (ReadHasFailed WriteHasFailed : Type 0) (e f : Option (List ℕ)) (failures_old failures_new : ℕ) where
  -- it ends in a fault, which is written with its explanation, or was not written whole
  abbrev pub IsTurnedAway : ℕ → Type 0
  IsTurnedAway status =
      (fault : Fault) × (known : List RefusedEvent) × EndsIn asked input known o n ReadHasFailed WriteHasFailed fault
      × ((help : List ℕ) × IsHelp asked input (Err fault) known help × IsTold e f failures_old failures_new help status fault)

  -- its whole answer is written, and a part of its notes was not
  abbrev pub IsCutBeside : ℕ → Type 0
  IsCutBeside status =
      (status ≡ 3) × ((found : ℕ) × (known : List RefusedEvent) × Works asked input known o n found
      × ((help : List ℕ) × IsHelp asked input (Ok found) known help × IsCut e f failures_old failures_new help))

  -- it has no answer: it ends in a fault that is written, or a part of the notes of its answer was not
  abbrev pub IsStopped : ℕ → Type 0
  IsStopped status = IsTurnedAway status ⊎ IsCutBeside status
