-- The effects of the options for reading.
use Rattle.std.specs.Prelude.{◌≡◌, ◌⊎◌, ◌∷◌, ◌++◌, ℕ, List, [], Option, Some, None, codes, if◌then◌else◌}
use Rattle.serde_json.specs.Data.{string}
use Rattle.serde_json.specs.Written.{compact_text}
use Rattle.mh_json.specs.declared.fault.Fault.{Fault}
use Rattle.mh_json.specs.declared.fault.InputFault.{InputFault}
use Rattle.mh_json.specs.declared.fault.InputFault.TheVariants.{BadShape, UnknownPoint}
use Rattle.mh_json.specs.declared.fault.TextFault.{TextFault}
use Rattle.mh_json.specs.declared.fault.TextFault.TheVariants.{Input, ReadFailed, WriteFailed, NoReader}
use Rattle.mh_json.specs.declared.refused.RefusedEvent.{RefusedEvent}
use Rattle.mh_explain.specs.Explanations.{Explains}
use Rattle.mh_explain.specs.Refused.{NamesRefused}
use Rattle.mh_explain.specs.Unread.{first_unread}
use Rattle.mh_json.specs.declared.json.form.InputForm.{InputForm}
use Rattle.mh_json.specs.declared.json.form.InputForm.TheVariants.{Script, Problem, Claim}
use Rattle.mh_profile.specs.Claims.{IsParted}
use Rattle.mh_profile.specs.Faulty.{IsFaulty, IsUnknown}
use Rattle.mh_profile.specs.declared.faulty.FaultyLine.{FaultyLine}
use Rattle.mh_command.specs.declared.request.Asked.{Asked}
use Rattle.mh_command.specs.declared.request.Request.{Request}
use Rattle.mh_command.specs.declared.request.Request.TheVariants.{Run, Check, CheckProfile, Plan, Stress, Profile}

-- the form of the input of a request; none if it has the lines of a profile
abbrev pub form_of : Request → Option InputForm
form_of (Run options) = Some Script
form_of Check = Some Claim
form_of CheckProfile = None
form_of (Plan options) = Some Problem
form_of (Stress options) = Some Script
form_of (Profile options) = None

-- the place of the first unknown key of an input: in the event of this number, or outside the events at 0
abbrev pub unread_in : Option InputForm → List ℕ → Option ℕ
unread_in None input = None
unread_in (Some form) input = first_unread form input

-- the place of that key, if an input is refused for it
abbrev pub refused_at : Asked → List ℕ → Option ℕ
refused_at asked input = if asked.reading.strict then unread_in (form_of asked.request) input else None

-- the fault of an unknown key
abbrev pub unread_fault : ℕ → Fault
unread_fault at = record { kind = Input BadShape; at = at }

-- an input is refused with this fault for an unknown key
abbrev pub IsRefusal : Asked → List ℕ → Fault → Type 0
IsRefusal asked input e = (at : ℕ) × (refused_at asked input ≡ Some at) × (e ≡ unread_fault at)

-- the fault of an input that a fault is, if it is one
abbrev pub input_fault : TextFault → Option InputFault
input_fault (Input cause) = Some cause
input_fault ReadFailed = None
input_fault WriteFailed = None
input_fault NoReader = None

abbrev pub fault_told : Option Fault → Option InputFault
fault_told None = None
fault_told (Some e) = input_fault e.kind

-- the fault of an input that is explained; if the input is refused for an unknown key, which has a note of its own, it is its first
-- other fault
abbrev pub fault_explained : Option ℕ → Option Fault → Option InputFault
fault_explained (Some at) fault = Some BadShape
fault_explained None fault = fault_told fault

-- the lines of the profile in an input
abbrev pub IsProfileIn : Request → List ℕ → List ℕ → Type 0
IsProfileIn CheckProfile input profile = (line : List ℕ) × IsParted input profile line
IsProfileIn (Profile options) input profile = profile ≡ input
IsProfileIn (Run options) input profile = profile ≡ input
IsProfileIn Check input profile = profile ≡ input
IsProfileIn (Plan options) input profile = profile ≡ input
IsProfileIn (Stress options) input profile = profile ≡ input

-- lines begin with the first need of a line that names no point before it
abbrev pub NamesNeed : FaultyLine → List ℕ → Type 0
NamesNeed line text =
    (name rest : List ℕ) × IsUnknown line name × (text ≡ codes "  found: " ++ (compact_text (string name) ++ (10 ∷ rest)))

-- Lines that explain a fault of a profile: none; or some for the line that has it, which name a need that no earlier line has.
abbrev pub ExplainsProfile : Request → List ℕ → InputFault → List ℕ → Type 0
ExplainsProfile request input e text =
    (text ≡ []) ⊎ ((profile : List ℕ) × (line : FaultyLine) × IsProfileIn request input profile × IsFaulty profile e line × (e ≡ UnknownPoint → NamesNeed line text))

-- the same for an input of a form, or with the lines of a profile
abbrev pub ExplainsAs : Option InputForm → Request → List ℕ → InputFault → List ℕ → Type 0
ExplainsAs (Some form) request input e lines = Explains form input e lines
ExplainsAs None request input e lines = ExplainsProfile request input e lines

-- lines that explain a fault of an input; there are none if there is no fault
abbrev pub ExplainsFault : Request → List ℕ → Option InputFault → List ℕ → Type 0
ExplainsFault request input (Some e) lines = ExplainsAs (form_of request) request input e lines
ExplainsFault request input None lines = lines ≡ []

-- such lines, followed by those of unknown keys, if there are any; or nothing, if memory ran out for them
abbrev pub IsExplained : Request → List ℕ → Option InputFault → List ℕ → Type 0
IsExplained request input fault help =
    (help ≡ [])
    ⊎ ((lines notes : List ℕ) × (help ≡ lines ++ notes) × ExplainsFault request input fault lines × (unread_in (form_of request) input ≡ None → notes ≡ []))

-- such lines, followed by those of the events of a run that were refused; or without these, if memory ran out for them
abbrev pub IsExplainedWith : Request → List ℕ → Option InputFault → List RefusedEvent → List ℕ → Type 0
IsExplainedWith request input fault refused help =
    (front events : List ℕ) × (help ≡ front ++ events) × IsExplained request input fault front × ((events ≡ []) ⊎ NamesRefused refused events)
