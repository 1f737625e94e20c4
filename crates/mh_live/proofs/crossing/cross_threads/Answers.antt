use denote.Param.{param}
use denote.Param.Send.{param_send, param_sync}
use Rattle.mh_live.proofs.Sending.{live_sync, pass_send}
use Rattle.mh_live.proofs.crossing.cross_threads.Goals as goal

pub returns-clause-pass : goal.returns-clause-pass
returns-clause-pass g c =
    let t = c.trees_cross_threads.ensures.trees in
    let s = c.stacks_cross_threads.ensures.stacks in
    let w = c.worlds_cross_threads.ensures.worlds in
    pass_send t s w (param 0 g.row.N) g.N.ListName (param_send 0 _ c.type_bounds.send-N) (param_sync 0 _ c.type_bounds.sync-N)

pub returns-clause-live : goal.returns-clause-live
returns-clause-live g c =
    let t = c.trees_cross_threads.ensures.trees in
    let s = c.stacks_cross_threads.ensures.stacks in
    let w = c.worlds_cross_threads.ensures.worlds in
    live_sync t s w (param 0 g.row.N) g.N.ListName (param_send 0 _ c.type_bounds.send-N) (param_sync 0 _ c.type_bounds.sync-N)
