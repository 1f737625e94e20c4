use denote.Exit.{no}
use denote.Param.Send.{IsSync, param_send, param_sync, arg_send, sendable}
use Rattle.mh_stress.proofs.Sending.{call_sync}
use Rattle.mh_stress.proofs.threads.work.Goals as goal
use Rattle.mh_stress.proofs.threads.work.Lts as lts

pub map_vec-requires-send-J : goal.map_vec-requires-send-J
map_vec-requires-send-J g c κs within =
    param_send 1 _ (arg_send _ no _ c.cross_threads.ensures.pass)

pub map_vec-requires-send-X : goal.map_vec-requires-send-X
map_vec-requires-send-X g c κs within =
    param_send 2 _ (arg_send _ no _ c.cross_threads.ensures.pass)

pub map_vec-requires-sync-F : goal.map_vec-requires-sync-F
map_vec-requires-sync-F g c κs within =
    let l = c.cross_threads.ensures.live in
    let a = call_sync c.values_cross_threads.ensures.values in
    let t = c.type_bounds.sync-T in
    let s = c.type_bounds.sync-S in
    let r : IsSync (lts.arg-2-4 g.row.N g.row.T g.row.S g.N.laws g.T.laws g.S.laws g.N.ListName g.N.ListName-dict g.T.Threads g.T.Threads-dict g.T.Wait g.T.Wait-dict g.S.ShowRounds g.S.ShowRounds-dict κs) = search sendable depth 60 fits 20000 in
    param_sync 4 _ r
