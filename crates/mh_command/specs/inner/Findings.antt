-- Findings in an input before the work.
use Rattle.std.specs.Prelude.{◌≡◌, ◌⊎◌, ◌+◌, ◌^◌, ℕ, List, [], ◌∷◌, ◌++◌, Option, Some, None, Result, Err, if◌then◌else◌}
use Rattle.mh_json.specs.Gives.{no_memory, outside}
use Rattle.mh_json.specs.Misreads.{MisreadData}
use Rattle.mh_json.specs.declared.fault.Fault.{Fault}
use Rattle.mh_json.specs.declared.fault.InputFault.{InputFault}
use Rattle.mh_json.specs.declared.fault.TextFault.TheVariants.{Input}
use Rattle.mh_json.specs.declared.key.Field.TheVariants as field
use Rattle.mh_json.specs.declared.key.Key.{Key}
use Rattle.mh_json.specs.declared.key.Key.TheVariants.{Member, Item}
use Rattle.mh_explain.specs.Explanations.{ExplainsMisread}
use Rattle.mh_command.specs.Answers.{IsFaultOf, IsHelp}
use Rattle.mh_command.specs.Readings.{refused_at, unread_fault, IsRefusal}
use Rattle.mh_command.specs.declared.request.Asked.{Asked}

-- the number of the event that keys lead into, from 1; 0 if they lead into none
abbrev pub event_of : List Key → ℕ
event_of (Member field.Events ∷ Item i ∷ rest) = i + 1
event_of _ = 0

-- past the number of each event of an input
abbrev pub event_bound : ℕ
event_bound = 2 ^ 64

-- the fault of a part that could not be read, with the number of its event
abbrev pub fault_in : MisreadData → Fault
fault_in m = record { kind = Input m.fault; at = event_of m.path }

-- the place of the first unknown key, if an input is refused for it
abbrev pub first_refused : Asked → Option ℕ → Option ℕ
first_refused asked first = if asked.reading.strict then first else None

-- the fault that prevents the work: that of such a key; otherwise that of a part that could not be read, or out of memory
abbrev pub IsFaultBefore : Option ℕ → Option MisreadData → Option Fault → Type 0
IsFaultBefore (Some at) misread fault = fault ≡ Some (unread_fault at)
IsFaultBefore None (Some m) fault = (fault ≡ Some (outside no_memory)) ⊎ (fault ≡ Some (fault_in m))
IsFaultBefore None None fault = fault ≡ None

-- lines that explain the fault of a part, followed by those of unknown keys; or nothing, if memory ran out for them
abbrev pub IsExplainedIn : Option MisreadData → Option ℕ → List ℕ → Type 0
IsExplainedIn misread first help =
    (help ≡ []) ⊎ ((lines notes : List ℕ) × (help ≡ lines ++ notes) × ExplainsMisread misread lines × (first ≡ None → notes ≡ []))

-- a fault that prevents the work over an input: out of memory; that of a key for which the input is refused; or its first fault
abbrev pub EndsBefore : Asked → List ℕ → Fault → Type 0
EndsBefore asked input e =
    (e ≡ outside no_memory)
    ⊎ IsRefusal asked input e
    ⊎ ((refused_at asked input ≡ None) × (cause : InputFault) × (e.kind ≡ Input cause) × IsFaultOf asked.request input e)

-- the findings in an input: such a fault, with its notes; or none, with the notes of any end of the work of which no refused event is
-- known
abbrev pub AreFindings : Asked → List ℕ → Option Fault → List ℕ → Type 0
AreFindings asked input (Some e) help = EndsBefore asked input e × IsHelp asked (Some input) (Err e) [] help
AreFindings asked input None help = (refused_at asked input ≡ None) × ((end : Result ℕ Fault) → IsHelp asked (Some input) end [] help)
