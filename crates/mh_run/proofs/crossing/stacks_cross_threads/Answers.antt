use denote.Param.Send.{sendable}
use Rattle.std.proofs.Crossing as crossing
use Rattle.std.proofs.alloc.Global.TheSendSync as global
use Rattle.std.proofs.vec.Vec.TheSendSync as vec
use Rattle.mh_run.proofs.levels.Level.TheSendSync as level
use Rattle.mh_run.proofs.levels.Bottom.TheSendSync as bottom
use Rattle.mh_run.proofs.crossing.stacks_cross_threads.Goals as goal

-- what stacks are made of, beside values
ruleset parts = (
  global.the_field_send,
  global.the_field_sync,
  vec.the_send,
  vec.the_sync,
  level.the_field_send,
  bottom.the_field_send,
  crossing.crosses,
  sendable,
)

pub returns : goal.returns
returns c =
    let v = c.values_cross_threads.ensures.values in
    let value_part_send = v.value_part_send in
    let value_part_sync = v.value_part_sync in
    record { stacks = record { stack_send = search parts depth 60 fits 20000 } }
