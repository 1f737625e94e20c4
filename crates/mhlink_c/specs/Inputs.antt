-- Readings of texts in JSON.
use Rattle.std.specs.Prelude.{◌≡◌, ◌⊎◌, ℕ, List, Result, Ok, Err}
use Rattle.mh_tree.specs.Handle.{TypedTree}
use Rattle.mh_json.specs.Gives.{◌>>=◌, at_place}
use Rattle.mh_json.specs.Inputs.{json_of_input}
use Rattle.mh_json.specs.Script.{definition_of}
use Rattle.mh_json.specs.Trees.{declared_of}
use Rattle.mh_json.specs.declared.fault.Fault.{Fault as TextualFault}
use Rattle.mh_json.specs.declared.json.declarations.Declarations.{Declarations}
use Rattle.mh_json.specs.declared.json.scope.Scope.{Scope}
use Rattle.mhlink_c.specs.Statuses.{no_memory, of_text}
use Rattle.mhlink_c.specs.declared.failure.Failure.{Failure}

-- a tree over the names that a definition declares
abbrev pub tree_in : Scope → List ℕ → Result TypedTree TextualFault
tree_in scope text = do
  value ← json_of_input text
  at_place 0 (declared_of scope value)

-- a definition and its names
abbrev pub declarations_in : List ℕ → Result Declarations TextualFault
declarations_in text = do
  value ← json_of_input text
  at_place 0 (definition_of value)

-- out of memory, or the fault that the text has
abbrev pub IsFaultOf : {X : Type 0} → Result X TextualFault → Failure → Type 0
IsFaultOf read e = (e ≡ no_memory) ⊎ ((fault : TextualFault) × ((read ≡ Err fault) × (e ≡ of_text fault)))

-- the result of a reading, or its fault
abbrev pub Reads : {X : Type 0} → Result X Failure → Result X TextualFault → Type 0
Reads (Ok x) read = read ≡ Ok x
Reads (Err e) read = IsFaultOf read e
