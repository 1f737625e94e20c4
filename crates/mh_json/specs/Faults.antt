-- The texts of faults.
use Rattle.std.specs.Prelude.{ℕ, Bool, true, false, List, [], ◌∷◌, ◌++◌, codes, if◌then◌else◌}
use Rattle.std.specs.Fmt.{decimal}
use Rattle.mh_type.specs.Faults as type_fault
use Rattle.mh_tree.specs.Faults as tree_fault
use Rattle.mh_site.specs.Definitions as definition_fault
use Rattle.mh_network.specs.Problems as problem_fault
use Rattle.mh_json.specs.declared.fault.Fault.{Fault}
use Rattle.mh_json.specs.declared.fault.InputFault.{InputFault}
use Rattle.mh_json.specs.declared.fault.InputFault.TheVariants.{NoMemory, TooLong, NotJson, BadShape, BadValue, UnknownShared, Tree, Definition, Problem, BadType, UnknownSite, UnknownPoint, PointTwice, NeedTwice}
use Rattle.mh_json.specs.declared.fault.TextFault.{TextFault}
use Rattle.mh_json.specs.declared.fault.TextFault.TheVariants.{Input, ReadFailed, WriteFailed, NoReader}

-- the number, the name, and the number of the cause
abbrev pub input_text : InputFault → List ℕ
input_text NoMemory = codes "1 NoMemory"
input_text TooLong = codes "2 TooLong"
input_text NotJson = codes "3 NotJson"
input_text BadShape = codes "4 BadShape"
input_text BadValue = codes "5 BadValue"
input_text UnknownShared = codes "6 UnknownShared"
input_text (Tree cause) = codes "7 Tree " ++ decimal (tree_fault.fault_number cause)
input_text (Definition cause) = codes "8 Definition " ++ decimal (definition_fault.fault_number cause)
input_text (Problem cause) = codes "9 Problem " ++ decimal (problem_fault.fault_number cause)
input_text (BadType cause) = codes "12 BadType " ++ decimal (type_fault.fault_number cause)
input_text UnknownSite = codes "13 UnknownSite"
input_text UnknownPoint = codes "14 UnknownPoint"
input_text PointTwice = codes "15 PointTwice"
input_text NeedTwice = codes "16 NeedTwice"

abbrev pub kind_text : TextFault → List ℕ
kind_text (Input cause) = input_text cause
kind_text ReadFailed = codes "10 ReadFailed"
kind_text WriteFailed = codes "11 WriteFailed"
kind_text NoReader = codes "NoReader"

-- a fault that no event and no part of an input has
abbrev pub is_nowhere : TextFault → Bool
is_nowhere NoReader = true
is_nowhere _ = false

-- a fault, and where it is
abbrev pub fault_text : Fault → List ℕ
fault_text e = codes "fault " ++ kind_text e.kind ++ (if is_nowhere e.kind then [] else codes " at " ++ decimal e.at)

-- the same, and the byte 0x0A
abbrev pub fault_line : Fault → List ℕ
fault_line e = fault_text e ++ 10 ∷ []
