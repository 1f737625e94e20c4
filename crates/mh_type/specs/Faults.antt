-- The numbers of the faults.
use Rattle.std.specs.Prelude.{ℕ}
use Rattle.mh_type.specs.declared.fault.TypeFault.{TypeFault}
use Rattle.mh_type.specs.declared.fault.TypeFault.TheVariants.{NoMemory, TooManyParameters, BadText}

abbrev pub fault_number : TypeFault → ℕ
fault_number NoMemory = 1
fault_number TooManyParameters = 2
fault_number BadText = 3
