use denote.Param.Send.{sendable}
use Rattle.std.proofs.Crossing as crossing
use Rattle.std.proofs.alloc.Global.TheSendSync as global
use Rattle.std.proofs.vec.Vec.TheSendSync as vec
use Rattle.mh_tree.proofs.operand.Operand.TheSendSync as operand
use Rattle.mh_code.proofs.code.KeyTest.TheSendSync as key_test
use Rattle.mh_code.proofs.code.Piece.TheLaws.TheKnot as pieces
use Rattle.mh_code.proofs.crossing.code_crosses_threads.Goals as goal

-- what code is made of, beside trees, operations and values
ruleset parts = (
  global.the_field_send,
  global.the_field_sync,
  operand.the_field_send,
  operand.the_field_sync,
  key_test.the_field_send,
  key_test.the_field_sync,
  vec.the_sync,
  crossing.crosses,
  pieces.crosses_both,
  sendable,
)

pub returns : goal.returns
returns c =
    let t = c.trees_cross_threads.ensures.trees in
    let v = c.values_cross_threads.ensures.values in
    let handle_send = t.handle_send in
    let handle_sync = t.handle_sync in
    let operation_part_send = v.operation_part_send in
    let operation_part_sync = v.operation_part_sync in
    let value_send = v.value_send in
    let value_sync = v.value_sync in
    let value_part_send = v.value_part_send in
    let value_part_sync = v.value_part_sync in
    record {
      code = record {
        prepared_send = search parts depth 60 fits 20000;
        prepared_sync = search parts depth 60 fits 20000;
      };
    }
