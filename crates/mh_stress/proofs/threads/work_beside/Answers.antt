use denote.Param.Send.{sendable}
use Rattle.std.proofs.Crossing as crossing
use Rattle.std.proofs.alloc.Global.TheSendSync as global
use Rattle.std.proofs.option.Option.TheSendSync as option
use Rattle.std.proofs.vec.Vec.TheSendSync as vec
use Rattle.mh_stress.proofs.Sending.{call_sync}
use Rattle.mh_stress.proofs.stage.Stage.TheSendSync as stage
use Rattle.mh_stress.proofs.threads.work_beside.Goals as goal

ruleset lists = (vec.the_send, global.the_send, global.the_sync, global.the_field_send, global.the_field_sync, option.the_send, option.the_field_send, crossing.crosses, sendable)

pub join-after-requires-send-F : goal.join-after-requires-send-F
join-after-requires-send-F g c κs within =
    let p = c.cross_threads.ensures.pass in
    let l = c.cross_threads.ensures.live in
    let a = call_sync c.values_cross_threads.ensures.values in
    let t = c.type_bounds.sync-T in
    let s = c.type_bounds.sync-S in
    search (stage.the_sync, stage.the_field_sync, lists) depth 60 fits 20000

pub join-after-requires-send-A : goal.join-after-requires-send-A
join-after-requires-send-A g c κs within =
    let p = c.cross_threads.ensures.pass in
    search lists depth 60 fits 20000
