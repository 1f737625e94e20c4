use denote.Param.Send.{sendable}
use Rattle.std.proofs.Crossing as crossing
use Rattle.std.proofs.alloc.Global.TheSendSync as global
use Rattle.std.proofs.vec.Vec.TheSendSync as vec
use Rattle.mh_tree.proofs.node.Node.TheLaws.TheKnot as nodes
use Rattle.mh_tree.proofs.crossing.trees_cross_threads.Goals as goal

-- what trees are made of, beside kinds, method types, operations and values
ruleset parts = (
  global.the_field_send,
  global.the_field_sync,
  vec.the_sync,
  crossing.crosses,
  nodes.crosses_both,
  sendable,
)

pub returns : goal.returns
returns c =
    let v = c.values_cross_threads.ensures.values in
    let kind_send = v.kind_send in
    let kind_sync = v.kind_sync in
    let kind_part_send = v.kind_part_send in
    let kind_part_sync = v.kind_part_sync in
    let method_type_send = v.method_type_send in
    let method_type_sync = v.method_type_sync in
    let operation_part_send = v.operation_part_send in
    let operation_part_sync = v.operation_part_sync in
    let value_send = v.value_send in
    let value_sync = v.value_sync in
    let value_part_send = v.value_part_send in
    let value_part_sync = v.value_part_sync in
    record {
      trees = record {
        handle_send = search parts depth 60 fits 20000;
        handle_sync = search parts depth 60 fits 20000;
        declared_send = search parts depth 60 fits 20000;
        declared_sync = search parts depth 60 fits 20000;
      };
    }
