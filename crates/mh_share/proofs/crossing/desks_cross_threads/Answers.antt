use Rattle.mh_share.proofs.Sending.{caller_send, desk_send}
use Rattle.mh_share.proofs.crossing.desks_cross_threads.Goals as goal

pub returns : goal.returns
returns c =
    let s = c.stacks_cross_threads.ensures.stacks in
    let w = c.worlds_cross_threads.ensures.worlds in
    let r = c.runtimes_cross_threads.ensures.runtimes in
    record { desk = desk_send s w r; caller = caller_send s w r }
