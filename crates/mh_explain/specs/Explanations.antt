-- What an explanation of a fault says about its place.
use Rattle.std.specs.Prelude.{ℕ, ◌≡◌, Bool, true, false, List, [], ◌∷◌, ◌++◌, Option, Some, None, Result, Ok, Err, codes, ⊤}
use Rattle.serde_json.specs.Data.{Data, array, member, no_items, no_members, number, object, unsigned}
use Rattle.mh_json.specs.Forms.{misread_by}
use Rattle.mh_json.specs.Inputs.{json_of_input}
use Rattle.mh_json.specs.Keys.{path_text}
use Rattle.mh_json.specs.Misreads.{MisreadData}
use Rattle.mh_json.specs.declared.fault.Fault.{Fault}
use Rattle.mh_json.specs.declared.fault.InputFault.{InputFault}
use Rattle.mh_json.specs.declared.fault.InputFault.TheVariants.{NoMemory, TooLong}
use Rattle.mh_json.specs.declared.key.Key.{Key}
use Rattle.mh_json.specs.declared.json.form.InputForm.{InputForm}
use Rattle.mh_json.specs.declared.json.form.InputForm.TheVariants as form
use Rattle.mh_explain.specs.declared.faulty.FaultyPart.{FaultyPart}

-- whether some part of an input, or its text, has a fault
abbrev pub is_of_part : InputFault → Bool
is_of_part NoMemory = false
is_of_part TooLong = false
is_of_part _ = true

-- a place as a line shows it
abbrev pub place_text : List Key → List ℕ
place_text [] = codes "the input itself"
place_text (key ∷ rest) = path_text (key ∷ rest)

-- a part with its fault, as a misread
abbrev pub misread_of : FaultyPart → MisreadData
misread_of part = record { fault = part.fault; path = part.path.items }

-- lines begin with that of a place
abbrev pub NamesPlace : List Key → List ℕ → Type 0
NamesPlace path lines = (rest : List ℕ) × (lines ≡ codes "  where: " ++ (place_text path ++ (10 ∷ rest)))

-- lines explain the fault of a value: they begin with that of its place; there are none if there is no fault
abbrev pub ExplainsMisread : Option MisreadData → List ℕ → Type 0
ExplainsMisread (Some misread) lines = NamesPlace misread.path lines
ExplainsMisread None lines = lines ≡ []

-- the same for an input; nothing is said of a text that is not valid JSON
abbrev pub ExplainsRead : InputForm → Result Data Fault → List ℕ → Type 0
ExplainsRead form (Ok d) lines = ExplainsMisread (misread_by form d) lines
ExplainsRead form (Err e) lines = ⊤

-- lines explain a fault of an input that is read as this form
abbrev pub Explains : InputForm → List ℕ → InputFault → List ℕ → Type 0
Explains form input e lines = is_of_part e ≡ true → ExplainsRead form (json_of_input input) lines

-- the script of a definition, with one worker and without events
abbrev pub script_around : Data → Data
script_around definition =
    object (member (codes "definition") definition
    (member (codes "events") (array no_items)
    (member (codes "workers") (number (unsigned 1)) no_members)))

-- lines explain the fault of a definition that is not part of a script: those of its script
abbrev pub ExplainsAlone : Result Data Fault → List ℕ → Type 0
ExplainsAlone (Ok d) lines = ExplainsMisread (misread_by form.Script (script_around d)) lines
ExplainsAlone (Err e) lines = ⊤

abbrev pub ExplainsDefinition : List ℕ → List ℕ → Type 0
ExplainsDefinition input lines = ExplainsAlone (json_of_input input) lines
