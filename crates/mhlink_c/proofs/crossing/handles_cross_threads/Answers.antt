use Rattle.mhlink_c.proofs.Sending.{caller_handle_send, desk_handle_send, machine_send, tree_handle_send}
use Rattle.mhlink_c.proofs.crossing.handles_cross_threads.Goals as goal

pub returns : goal.returns
returns c =
    let v = c.values_cross_threads.ensures.values in
    let t = c.trees_cross_threads.ensures.trees in
    record {
      machine = machine_send v t c.runtimes_cross_threads.ensures.runtimes;
      desk = desk_handle_send v t c.desks_cross_threads.ensures.desk;
      caller = caller_handle_send v t c.desks_cross_threads.ensures.caller;
      tree = tree_handle_send v t;
    }
