use denote.Param.Send.{sendable}
use Rattle.std.proofs.Crossing as crossing
use Rattle.std.proofs.alloc.Global.TheSendSync as global
use Rattle.std.proofs.option.Option.TheSendSync as option
use Rattle.std.proofs.vec.Vec.TheSendSync as vec
use Rattle.tests_live.proofs.Sending.{word_sync}
use Rattle.tests_live.proofs.beside.call_beside.Goals as goal

ruleset lists = (vec.the_send, global.the_send, global.the_sync, global.the_field_send, global.the_field_sync, option.the_send, option.the_field_send, crossing.crosses, sendable)

pub join-called-requires-send-F : goal.join-called-requires-send-F
join-called-requires-send-F g c κs within =
    let p = c.cross_threads.ensures.pass in
    let w = word_sync in
    let t = c.type_bounds.sync-R in
    search lists depth 60 fits 20000

pub join-called-requires-send-A : goal.join-called-requires-send-A
join-called-requires-send-A g c κs within =
    let p = c.cross_threads.ensures.pass in
    search lists depth 60 fits 20000
