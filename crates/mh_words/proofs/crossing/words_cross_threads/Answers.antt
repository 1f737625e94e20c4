use denote.Param.Send.{sendable}
use Rattle.std.proofs.Crossing as crossing
use Rattle.std.proofs.alloc.Global.TheSendSync as global
use Rattle.std.proofs.vec.Vec.TheSendSync as vec
use Rattle.mh_words.proofs.operation.WordOperation.TheSendSync as operation
use Rattle.mh_words.proofs.slot.Slot.TheSendSync as slot
use Rattle.mh_words.proofs.word_source.WordSource.TheSendSync as source
use Rattle.mh_words.proofs.word_test.WordTest.TheSendSync as test
use Rattle.mh_words.proofs.piece.WordPiece.TheLaws.TheKnot as pieces
use Rattle.mh_words.proofs.crossing.words_cross_threads.Goals as goal

-- the parts of code over words, besides prepared handles and kinds
ruleset parts = (
  global.the_field_send,
  global.the_field_sync,
  operation.the_field_send,
  operation.the_field_sync,
  slot.the_field_send,
  slot.the_field_sync,
  source.the_field_send,
  source.the_field_sync,
  test.the_field_send,
  test.the_field_sync,
  vec.the_sync,
  crossing.crosses,
  pieces.crosses_both,
  sendable,
)

pub returns : goal.returns
returns c =
    let p = c.code_crosses_threads.ensures.code in
    let v = c.values_cross_threads.ensures.values in
    let prepared_send = p.prepared_send in
    let prepared_sync = p.prepared_sync in
    let kind_send = v.kind_send in
    let kind_sync = v.kind_sync in
    let kind_part_send = v.kind_part_send in
    let kind_part_sync = v.kind_part_sync in
    record {
      words = record {
        lowered_send = search parts depth 60 fits 20000;
        lowered_sync = search parts depth 60 fits 20000;
        code_send = search parts depth 60 fits 20000;
        code_sync = search parts depth 60 fits 20000;
      };
    }
