use denote.Exit.{no}
use denote.Param.{param}
use denote.Param.Send.{IsSend, param_send, arg_send, sendable}
use denote.RattleType.{RattleType}
use Rattle.mh_live.specs.declared.front.ListName.{Ghosts}
use Rattle.std.proofs.Crossing as crossing
use Rattle.mh_live.specs.contracts.pass.Pass as Pass
use Rattle.tests_live.proofs.Sending.{word_sync}
use Rattle.tests_live.specs.contracts.beside.Called as Called
use Rattle.tests_live.proofs.beside.call_in_threads.Goals as goal

ruleset plain = (crossing.crosses, sendable)

called_send : (N : RattleType) (n : Ghosts N.Denot) → IsSend (Pass.the_row N n) → IsSend (Called.the_row N n)
called_send N n p = search plain depth 60 fits 20000

pub map_vec-requires-send-J : goal.map_vec-requires-send-J
map_vec-requires-send-J g c κs within =
    param_send 1 _ (arg_send _ no _ c.cross_threads.ensures.pass)

pub map_vec-requires-send-X : goal.map_vec-requires-send-X
map_vec-requires-send-X g c κs within =
    param_send 2 _ (arg_send _ no _ (called_send (param 0 g.row.N) g.N.ListName c.cross_threads.ensures.pass))

pub map_vec-requires-sync-F : goal.map_vec-requires-sync-F
map_vec-requires-sync-F g c κs within =
    let w = word_sync in
    search sendable depth 60 fits 20000
