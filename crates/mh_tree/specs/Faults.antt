-- The numbers of the faults.
use Rattle.std.specs.Prelude.{ℕ}
use Rattle.mh_tree.specs.declared.fault.TreeFault.{TreeFault}
use Rattle.mh_tree.specs.declared.fault.TreeFault.TheVariants.{NoMemory, BadPosition, TypeMismatch, NotUnary, NotBoolean, BadReorder, TooManyParameters, TooDeep, TooLarge}

abbrev pub fault_number : TreeFault → ℕ
fault_number NoMemory = 1
fault_number BadPosition = 2
fault_number TypeMismatch = 3
fault_number NotUnary = 4
fault_number NotBoolean = 5
fault_number BadReorder = 6
fault_number TooManyParameters = 7
fault_number TooDeep = 8
fault_number TooLarge = 9
