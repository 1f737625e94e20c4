-- The numbers of faults.
use Rattle.std.specs.Prelude.{ℕ}
use Rattle.mh_core.specs.Refusals.{refusal_number}
use Rattle.mh_core.specs.declared.caller.CalleeFault.{CalleeFault}
use Rattle.mh_core.specs.declared.caller.CalleeFault.TheVariants as callee
use Rattle.mh_live.specs.declared.call_fault.CallFault.{CallFault}
use Rattle.mh_live.specs.declared.call_fault.CallFault.TheVariants as call
use Rattle.mh_live.specs.declared.flush_fault.FlushFault.{FlushFault}
use Rattle.mh_live.specs.declared.flush_fault.FlushFault.TheVariants as flushing
use Rattle.mh_live.specs.declared.open_fault.OpenFault.{OpenFault}
use Rattle.mh_live.specs.declared.open_fault.OpenFault.TheVariants as opening
use Rattle.mh_live.specs.declared.settle_fault.SettleFault.{SettleFault}
use Rattle.mh_live.specs.declared.settle_fault.SettleFault.TheVariants as settling

abbrev pub call_fault_number : CallFault → ℕ
call_fault_number call.NoMemory = 1
call_fault_number call.NoSite = 3
call_fault_number call.WrongType = 5
call_fault_number call.LedgerFull = 11
call_fault_number call.NotEntered = 15

-- the reason why a call cannot be made of its site
abbrev pub fault_of_callee : CalleeFault → CallFault
fault_of_callee callee.NoSite = call.NoSite
fault_of_callee callee.WrongType = call.WrongType

abbrev pub open_fault_number : OpenFault → ℕ
open_fault_number opening.NoMemory = 1
open_fault_number opening.NoReader = 2

abbrev pub flush_fault_number : FlushFault → ℕ
flush_fault_number flushing.NotHeld = 16
flush_fault_number (flushing.Refused told) = refusal_number told

abbrev pub settle_fault_number : SettleFault → ℕ
settle_fault_number settling.NoMemory = 1
settle_fault_number settling.MissingPass = 2
