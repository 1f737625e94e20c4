-- Readings that may fail, and the results of readers.
use Rattle.std.specs.Prelude.{ℕ, ◌≡◌, ◌⊎◌, Option, Some, None, Result, Ok, Err, ⊤}
use Rattle.mh_type.specs.declared.fault.TypeFault.{TypeFault}
use Rattle.mh_type.specs.declared.fault.TypeFault.TheVariants as type_fault
use Rattle.mh_tree.specs.declared.fault.TreeFault.{TreeFault}
use Rattle.mh_tree.specs.declared.fault.TreeFault.TheVariants as tree_fault
use Rattle.mh_site.specs.declared.fault.DefinitionFault.{DefinitionFault}
use Rattle.mh_site.specs.declared.fault.DefinitionFault.TheVariants as definition_fault
use Rattle.mh_network.specs.declared.fault.ProblemFault.{ProblemFault}
use Rattle.mh_network.specs.declared.fault.ProblemFault.TheVariants as problem_fault
use Rattle.mh_json.specs.declared.fault.InputFault.{InputFault}
use Rattle.mh_json.specs.declared.fault.InputFault.TheVariants.{NoMemory, TooLong, Tree, Definition, Problem, BadType}
use Rattle.mh_json.specs.declared.fault.TextFault.{TextFault}
use Rattle.mh_json.specs.declared.fault.TextFault.TheVariants as text
use Rattle.mh_json.specs.declared.fault.Fault.{Fault}
use Rattle.mh_json.specs.Misreads.{MisreadData, here}

infixl 10 ◌>>=◌
abbrev pub ◌>>=◌ : {A B E : Type 0} → Result A E → (A → Result B E) → Result B E
(Ok x) >>= f = f x
(Err e) >>= f = Err e

-- the value, or the fault
abbrev pub or_fault : {A : Type 0} → InputFault → Option A → Result A MisreadData
or_fault e (Some x) = Ok x
or_fault e None = Err (here e)

-- The result of a function, as `view` shows it, is the reading, unless memory ran out.
abbrev pub Gives : {X Y : Type 0} → (X → Y) → Result X MisreadData → Result Y MisreadData → Type 0
Gives view (Ok x) read = read ≡ Ok (view x)
Gives view (Err m) read = (m.fault ≡ NoMemory) ⊎ (read ≡ Err m)

-- the fault of a constructor of trees, as a fault of the input
abbrev pub of_tree : TreeFault → InputFault
of_tree tree_fault.NoMemory = NoMemory
of_tree cause = Tree cause

-- the fault of a method type, as a fault of the input
abbrev pub of_type : TypeFault → InputFault
of_type type_fault.NoMemory = NoMemory
of_type cause = BadType cause

-- the fault of a definition, as a fault of the input
abbrev pub of_definition : DefinitionFault → InputFault
of_definition definition_fault.NoMemory = NoMemory
of_definition cause = Definition cause

-- the fault of a problem, as a fault of the input
abbrev pub of_problem : ProblemFault → InputFault
of_problem problem_fault.NoMemory = NoMemory
of_problem cause = Problem cause

-- the result, or the cause as a fault of the input
abbrev pub caused : {A C : Type 0} → (C → InputFault) → Result A C → Result A MisreadData
caused fault (Ok x) = Ok x
caused fault (Err cause) = Err (here (fault cause))

-- out of memory, as a fault of the whole run
abbrev pub no_memory : TextFault
no_memory = text.Input NoMemory

-- a fault outside the events
abbrev pub outside : TextFault → Fault
outside kind = record { kind = kind; at = 0 }

-- an input that is too long
abbrev pub too_long : TextFault
too_long = text.Input TooLong

-- a fault at a place: 0 outside the events, and the event's number from 1
abbrev pub at_place : {A : Type 0} → ℕ → Result A MisreadData → Result A Fault
at_place place (Ok x) = Ok x
at_place place (Err e) = Err (record { kind = text.Input e.fault; at = place })

-- the same as Gives for a fault with its place; lack of memory has the place 0
abbrev pub GivesAt : {X Y : Type 0} → (X → Y) → Result X Fault → Result Y Fault → Type 0
GivesAt view (Ok x) read = read ≡ Ok (view x)
GivesAt view (Err e) read = (e ≡ record { kind = no_memory; at = 0 }) ⊎ (read ≡ Err e)

-- the same, where memory may also run out at a place that is reached
abbrev pub GivesUpTo : {X : Type 0} → (ℕ → Type 0) → Result X Fault → Result X Fault → Type 0
GivesUpTo IsReached (Ok x) read = read ≡ Ok x
GivesUpTo IsReached (Err e) read =
    (e ≡ record { kind = no_memory; at = 0 }) ⊎ ((e.kind ≡ no_memory) × IsReached e.at) ⊎ (read ≡ Err e)

-- the same of the item that has this place
abbrev pub GivesNumbered : {X : Type 0} → ℕ → Result X Fault → Result X MisreadData → Type 0
GivesNumbered place (Ok x) read = read ≡ Ok x
GivesNumbered place (Err e) read = (e ≡ record { kind = no_memory; at = place }) ⊎ (at_place place read ≡ Err e)

-- a fault of a stream is reported only if that stream failed
abbrev pub IsEndOf : Type 0 → Type 0 → TextFault → Type 0
IsEndOf ReadHasFailed WriteHasFailed text.ReadFailed = ReadHasFailed
IsEndOf ReadHasFailed WriteHasFailed text.WriteFailed = WriteHasFailed
IsEndOf ReadHasFailed WriteHasFailed _ = ⊤

-- a fault that an input may have, or out of memory, and not that of a stream
abbrev pub IsOfInput : TextFault → Type 0
IsOfInput = IsEndOf ⊥ ⊥
