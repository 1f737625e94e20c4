-- Passes may go to another thread, and threads may share an office: part by part, since a search that goes down through them all
-- breaks off.
use denote.RattleType.{RattleType}
use denote.Param.Send.{IsSend, IsSync, sendable}
use Rattle.std.proofs.Crossing as crossing
use Rattle.std.proofs.alloc.Global.TheSendSync as global
use Rattle.std.proofs.option.Option.TheSendSync as option
use Rattle.std.proofs.sync.Arc.TheSendSync as arc
use Rattle.std.proofs.vec.Vec.TheSendSync as vec
use Rattle.atomic_table.proofs.shared.Seat.TheSendSync as seat
use Rattle.left_right.proofs.part.Part.TheSendSync as part
use Rattle.left_right.proofs.reader.Factory.TheSendSync as factory
use Rattle.left_right.proofs.reader.Reader.TheSendSync as reader
use Rattle.left_right.proofs.writer.Writer.TheSendSync as writer
use Rattle.logbook.proofs.tokens.Seen.TheSendSync as seen
use Rattle.mh_tree.specs.Laws.Crossing.{TreesCross}
use Rattle.mh_run.specs.Laws.Crossing.{StacksCross}
use Rattle.mh_site.specs.Laws.Crossing.{WorldsCross}
use Rattle.mh_ledger.specs.contracts.ledger.Ledger as Ledger
use Rattle.mh_core.specs.contracts.book.Book as Book
use Rattle.mh_core.specs.contracts.record.Record as Record
use Rattle.mh_live.proofs.front.Front.TheSendSync as front
use Rattle.mh_live.proofs.front.Head.TheSendSync as head
use Rattle.mh_live.specs.contracts.live.Live as Live
use Rattle.mh_live.specs.contracts.office.Office as Office
use Rattle.mh_live.specs.contracts.pass.Pass as Pass
use Rattle.mh_live.specs.contracts.published.Published as Published
use Rattle.mh_live.specs.contracts.published.Publication as Publication
use Rattle.mh_live.specs.declared.front.ListName.{Ghosts}

-- what is made of parts that may cross threads
ruleset plain = (seen.the_send, seen.the_sync, crossing.crosses, sendable)

-- what is made of lists of them
ruleset lists = (global.the_field_send, global.the_field_sync, vec.the_send, vec.the_sync, plain)

module _ (trees : TreesCross) (stacks : StacksCross) (worlds : WorldsCross) where
  ledger_send : IsSend Ledger.the_row
  ledger_send = search lists depth 60 fits 20000

  published_send : IsSend Published.the_row
  published_send = let w = worlds.world_send in search plain depth 60 fits 20000

  published_sync : IsSync Published.the_row
  published_sync = let w = worlds.world_sync in search plain depth 60 fits 20000

  pub pass_send : (N : RattleType) (n : Ghosts N.Denot) → IsSend N → IsSync N → IsSend (Pass.the_row N n)
  pass_send N n s y =
      let a = published_send in
      let b = published_sync in
      let c = worlds.definition_send in
      let d = worlds.definition_sync in
      let e = stacks.stack_send in
      let f = ledger_send in
      search (
        seat.the_send,
        part.the_send,
        factory.the_field_send,
        reader.the_field_send,
        front.the_send,
        arc.the_send,
        option.the_field_send,
        option.the_send,
        global.the_send,
        global.the_sync,
        plain,
      ) depth 60 fits 20000

  step_send : IsSend Publication.the_row
  step_send = let a = worlds.control_part_send in search plain depth 60 fits 20000

  step_sync : IsSync Publication.the_row
  step_sync = let a = worlds.control_part_sync in search plain depth 60 fits 20000

  record_send : IsSend Record.the_row
  record_send = let a = trees.declared_send in search plain depth 60 fits 20000

  record_sync : IsSync Record.the_row
  record_sync = let a = trees.declared_sync in search plain depth 60 fits 20000

  book_send : IsSend Book.the_row
  book_send =
      let a = record_send in
      let b = record_sync in
      let c = worlds.world_send in
      let d = worlds.definition_send in
      search plain depth 60 fits 20000

  office_send : (N : RattleType) (n : Ghosts N.Denot) → IsSend N → IsSync N → IsSend (Office.the_row N n)
  office_send N n s y =
      let a = book_send in
      let b = published_send in
      let c = published_sync in
      let d = step_send in
      let e = step_sync in
      search (writer.the_field_send, head.the_field_send, front.the_send, global.the_send, global.the_sync, plain) depth 60 fits 20000

  pub live_sync : (N : RattleType) (n : Ghosts N.Denot) → IsSend N → IsSync N → IsSync (Live.the_row N n)
  live_sync N n s y = let a = office_send N n s y in search plain depth 60 fits 20000
