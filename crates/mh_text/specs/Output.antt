-- The output for an input.
use Rattle.std.specs.Prelude.{◌≡◌, ◌⊎◌, ℕ, ◌+◌, ◌<◌, Bool, true, false, List, [], ◌∷◌, ◌++◌, length, take, Option, Result, Ok, Err, IfSome}
use Rattle.std.specs.Io.KnownBytes.{Appends, Keeps}
use Rattle.serde_json.specs.Data.{Data}
use Rattle.mh_json.specs.declared.fault.Fault.{Fault}
use Rattle.mh_json.specs.declared.fault.TextFault.{TextFault}
use Rattle.mh_json.specs.declared.fault.TextFault.TheVariants as fault
use Rattle.mh_core.specs.declared.event.Event.{Event}
use Rattle.mh_core.specs.declared.refusal.Refusal.TheVariants.{NoMemory}
use Rattle.mh_core.specs.declared.reply.Reply.{Reply}
use Rattle.mh_core.specs.declared.reply.Reply.TheVariants.{Refused}
use Rattle.mh_json.specs.declared.json.script.Script.{Script}
use Rattle.mh_json.specs.declared.json.step.Step.{Step}
use Rattle.mh_text.specs.declared.streams.run.RunOptions.{RunOptions}
use Rattle.mh_text.specs.Bytes.{AppendsFront}
use Rattle.mh_text.specs.Refused.{AreRefused}
use Rattle.mh_json.specs.declared.refused.RefusedEvent.{RefusedEvent}
use Rattle.mh_text.specs.Steps.{Told, Run}
use Rattle.mh_json.specs.Gives.{no_memory, outside}
use Rattle.mh_json.specs.Inputs.{json_of_input}
use Rattle.mh_text.specs.Lines.{line_of, lines_of}
use Rattle.mh_core.specs.Legal.{MachineState, Setting, opened_machine}
use Rattle.mh_text.specs.Report.{report_text}
use Rattle.mh_json.specs.Script.{script_by, script_of_input, IsReachedBy}

-- the report of a machine, if it is asked for
abbrev pub report_where : Bool → MachineState → List ℕ
report_where true m = report_text m
report_where false m = []

-- the same after lines
abbrev pub with_report : Bool → List ℕ → MachineState → List ℕ
with_report true lines m = lines ++ report_text m
with_report false lines m = lines

-- the output of a run with these replies that ends with this history
abbrev pub run_text : RunOptions → Setting → List Told → List Event → List ℕ
run_text options x replies last = with_report options.report (lines_of x.definition replies) (record { setting = x; history = last })

-- the text of a whole run of these steps was appended, in which these events were refused
abbrev pub AppendsRun : RunOptions → MachineState → List Step → List RefusedEvent → Option (List ℕ) → Option (List ℕ) → Type 0
AppendsRun options first steps refused old new =
    (replies : List Told) × (last : List Event) × Run first.setting first.history steps replies last
    × AreRefused replies refused × Appends old new (run_text options first.setting replies last)

-- a whole run of these steps ends with this machine, and its lines were appended; these events were refused
abbrev pub RunsTo : MachineState → List Step → MachineState → List RefusedEvent → Option (List ℕ) → Option (List ℕ) → Type 0
RunsTo first steps last refused old new =
    (replies : List Told) × Run first.setting first.history steps replies last.history × (last.setting ≡ first.setting)
    × AreRefused replies refused × Appends old new (lines_of first.setting.definition replies)

-- lack of memory does not end a run in the line of an event that was itself refused for lack of memory: that line takes none
abbrev pub MayEnd : TextFault → Reply → Type 0
MayEnd kind reply = kind ≡ no_memory → reply ≡ Refused NoMemory → ⊥

-- The run ended in the step with a fault's number: the lines of the steps before it were appended, and a prefix of its own line, after
-- which bytes are left. So if the writer fails at the end of a line, it is the next step.
abbrev pub EndsIn : MachineState → List Step → Fault → Option (List ℕ) → Option (List ℕ) → Type 0
EndsIn first steps e old new =
    (replies : List Told) × (reply : Told) × (last : List Event) × (front : List ℕ) × (rest : List ℕ)
    × (e.at ≡ length replies + 1) × ((0 < length rest) × MayEnd e.kind reply.1)
    × Run first.setting first.history (take e.at steps) (replies ++ reply ∷ []) last
    × (line_of first.setting.definition reply ≡ front ++ rest)
    × Appends old new (lines_of first.setting.definition replies ++ front)

-- a machine before its first event, for a script
abbrev pub first : Script → MachineState
first script = opened_machine script.definition script.workers script.limits

-- the faults that may end a run in the line of an event: lack of memory, or a write that failed
abbrev pub IsEnd : Type 0 → TextFault → Type 0
IsEnd WriteHasFailed kind = (kind ≡ no_memory) ⊎ ((kind ≡ fault.WriteFailed) × WriteHasFailed)

-- the first fault of a script
abbrev pub IsScriptFault : List ℕ → Fault → Type 0
IsScriptFault input e = script_of_input input ≡ Err e

-- the end of reading a script: its first fault, or lack of memory at an event that is reached
abbrev pub EndsReadingBy : {A : Type 0} → (A → Result Data Fault) → A → Fault → Type 0
EndsReadingBy json source e = (script_by json source ≡ Err e) ⊎ ((e.kind ≡ no_memory) × IsReachedBy json source e.at)

-- the end of reading an input as a script
abbrev pub EndsReading : List ℕ → Fault → Type 0
EndsReading = EndsReadingBy json_of_input

-- A fault before anything is written: lack of memory outside the events, a read that failed, or a fault of the input.
abbrev pub IsUnread : {A : Type 0} → (A → Fault → Type 0) → Option A → Type 0 → Fault → Type 0
IsUnread IsFault source ReadHasFailed e =
    (e ≡ outside no_memory) ⊎ ((e ≡ outside fault.ReadFailed) × ReadHasFailed) ⊎ IfSome source (λ it. IsFault it e)

-- a report that is asked for fails: memory ran out before it, or a write failed after a prefix of it
abbrev pub FailsReport : RunOptions → MachineState → Option (List ℕ) → Option (List ℕ) → Type 0 → Fault → Type 0
FailsReport options m old new WriteHasFailed e =
    (options.report ≡ true)
    × ((Keeps old new × (e ≡ outside no_memory)) ⊎ ((e ≡ outside fault.WriteFailed) × WriteHasFailed × AppendsFront old new (report_text m)))

-- the report after a whole run of these steps fails, whose lines were appended
abbrev pub EndsInReport : RunOptions → MachineState → List Step → Option (List ℕ) → Option (List ℕ) → Type 0 → Fault → Type 0
EndsInReport options first steps old new WriteHasFailed e =
    (last : MachineState) × (refused : List RefusedEvent) × (between : Option (List ℕ)) × RunsTo first steps last refused old between
    × FailsReport options last between new WriteHasFailed e

-- a fault of a run: lack of memory before its first event, a fault that ends it in the line of an event, or one that ends it in its report
abbrev pub EndsEarly : RunOptions → Script → Option (List ℕ) → Option (List ℕ) → Type 0 → Fault → Type 0
EndsEarly options script old new WriteHasFailed e =
    (Keeps old new × (e ≡ outside no_memory))
    ⊎ (IsEnd WriteHasFailed e.kind × EndsIn (first script) script.steps e old new)
    ⊎ EndsInReport options (first script) script.steps old new WriteHasFailed e

-- The state in which a fault leaves the writer: unchanged, if the script was not read, and otherwise as its run ended.
abbrev pub FailedBy : {A : Type 0} → (A → Result Data Fault) → RunOptions → Option A → Option (List ℕ) → Option (List ℕ) → Type 0 → Type 0 → Fault → Type 0
FailedBy json options source old new ReadHasFailed WriteHasFailed e =
    (Keeps old new × IsUnread (EndsReadingBy json) source ReadHasFailed e)
    ⊎ IfSome source (λ it. (script : Script) × (script_by json it ≡ Ok script) × EndsEarly options script old new WriteHasFailed e)

-- the state in which a fault leaves the writer of a run of an input
abbrev pub Failed : RunOptions → Option (List ℕ) → Option (List ℕ) → Option (List ℕ) → Type 0 → Type 0 → Fault → Type 0
Failed = FailedBy json_of_input
