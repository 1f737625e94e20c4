-- The status of each fault, as include/mhlink.h lists them, and its detail, the part.
use Rattle.std.specs.Prelude.{◌≡◌, ℕ, ◌+◌}
use Rattle.mh_base.specs.Tests.{Refuses, Tests}
use Rattle.mh_type.specs.Faults as type_fault
use Rattle.mh_tree.specs.Faults as tree_fault
use Rattle.mh_site.specs.Definitions as definition_fault
use Rattle.mh_network.specs.Problems as problem_fault
use Rattle.mh_cert.specs.Plans as check_fault
use Rattle.mh_network.specs.declared.fault.ProblemFault.{ProblemFault}
use Rattle.mh_network.specs.declared.fault.ProblemFault.TheVariants as problem
use Rattle.mh_core.specs.Refusals.{refusal_number}
use Rattle.mh_core.specs.declared.refusal.Refusal.{Refusal}
use Rattle.mh_core.specs.declared.refusal.Refusal.TheVariants as refusal
use Rattle.mh_json.specs.declared.fault.Fault.{Fault as TextualFault}
use Rattle.mh_json.specs.declared.fault.InputFault.{InputFault}
use Rattle.mh_json.specs.declared.fault.InputFault.TheVariants as input
use Rattle.mh_json.specs.declared.fault.TextFault.{TextFault}
use Rattle.mh_json.specs.declared.fault.TextFault.TheVariants as text
use Rattle.mhlink_c.specs.declared.failure.Failure.{Failure}
use Rattle.mhlink_c.specs.declared.failure.Failure.TheVariants.{Refused, Input, Problem, Unknown, Short, BadValue, BadLimits}

-- the number under "Faults of inputs" of docs/FAULTS.md
abbrev pub input_number : InputFault → ℕ
input_number input.NoMemory = 1
input_number input.TooLong = 2
input_number input.NotJson = 3
input_number input.BadShape = 4
input_number input.BadValue = 5
input_number input.UnknownShared = 6
input_number (input.Tree cause) = 7
input_number (input.Definition cause) = 8
input_number (input.Problem cause) = 9
input_number (input.BadType cause) = 12
input_number input.UnknownSite = 13
input_number input.UnknownPoint = 14
input_number input.PointTwice = 15
input_number input.NeedTwice = 16

-- the number of the cause of an input's fault, or 0
abbrev pub input_part : InputFault → ℕ
input_part (input.Tree cause) = tree_fault.fault_number cause
input_part (input.Definition cause) = definition_fault.fault_number cause
input_part (input.Problem cause) = problem_fault.fault_number cause
input_part (input.BadType cause) = type_fault.fault_number cause
input_part _ = 0

-- the status
abbrev pub status_of : Failure → ℕ
status_of (Refused told) = refusal_number told
status_of (Input fault) = 100 + input_number fault
status_of (Problem fault) = 200 + problem_fault.fault_number fault
status_of Unknown = 301
status_of Short = 302
status_of BadValue = 303
status_of BadLimits = 304

-- the number of the cause, the newest plan, or 0
abbrev pub part_of : Failure → ℕ
part_of (Refused (refusal.PlanRefused cause)) = check_fault.fault_number cause
part_of (Refused (refusal.OldPlan newest)) = newest
part_of (Input fault) = input_part fault
part_of _ = 0

abbrev pub no_memory : Failure
no_memory = Refused refusal.NoMemory

-- a fault of an input; lack of memory is a rejection
abbrev pub of_input : InputFault → Failure
of_input input.NoMemory = no_memory
of_input fault = Input fault

-- a fault of a problem; lack of memory is a rejection
abbrev pub of_problem : ProblemFault → Failure
of_problem problem.NoMemory = no_memory
of_problem fault = Problem fault

abbrev pub of_kind : TextFault → Failure
of_kind (text.Input fault) = of_input fault
of_kind _ = no_memory

-- a fault of a text, at any place
abbrev pub of_text : TextualFault → Failure
of_text fault = of_kind fault.kind

-- rejected for the first test that fails
abbrev pub IsRefusedBy : Tests Refusal → Failure → Type 0
IsRefusedBy tests e = (told : Refusal) × ((e ≡ Refused told) × Refuses tests told)
