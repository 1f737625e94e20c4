-- The calls of a script may be shared between threads.
use denote.Param.Send.{IsSync, sendable}
use Rattle.std.proofs.Crossing as crossing
use Rattle.std.proofs.alloc.Global.TheSendSync as global
use Rattle.std.proofs.vec.Vec.TheSendSync as vec
use Rattle.mh_type.specs.Laws.Crossing.{ValuesCross}
use Rattle.mh_stress.specs.contracts.division.Call as Call

ruleset shared = (global.the_field_sync, vec.the_sync, crossing.crosses, sendable)

pub call_sync : ValuesCross → IsSync Call.the_row
call_sync values = let a = values.value_sync in let b = values.value_part_sync in search shared depth 60 fits 20000
