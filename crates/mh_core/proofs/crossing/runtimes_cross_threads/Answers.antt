use denote.Param.Send.{IsSend, IsSync, sendable}
use Rattle.std.proofs.Crossing as crossing
use Rattle.std.proofs.alloc.Global.TheSendSync as global
use Rattle.std.proofs.vec.Vec.TheSendSync as vec
use Rattle.mh_tree.specs.Laws.Crossing.{TreesCross}
use Rattle.mh_run.specs.Laws.Crossing.{StacksCross}
use Rattle.mh_site.specs.Laws.Crossing.{WorldsCross}
use Rattle.mh_ledger.specs.contracts.ledger.Ledger as Ledger
use Rattle.mh_core.specs.contracts.book.Book as Book
use Rattle.mh_core.specs.contracts.record.Record as Record
use Rattle.mh_core.specs.contracts.runtime.Runtime as Runtime
use Rattle.mh_core.proofs.crossing.runtimes_cross_threads.Goals as goal

ruleset plain = (crossing.crosses, sendable)

ruleset lists = (global.the_field_send, global.the_field_sync, vec.the_send, vec.the_sync, plain)

ledger_send : IsSend Ledger.the_row
ledger_send = search lists depth 60 fits 20000

module _ (trees : TreesCross) (stacks : StacksCross) (worlds : WorldsCross) where
  record_send : IsSend Record.the_row
  record_send = let a = trees.declared_send in search plain depth 60 fits 20000

  record_sync : IsSync Record.the_row
  record_sync = let a = trees.declared_sync in search plain depth 60 fits 20000

  book_send : IsSend Book.the_row
  book_send =
      let a = record_send in
      let b = record_sync in
      let c = worlds.world_send in
      let d = worlds.definition_send in
      search plain depth 60 fits 20000

  runtime_send : IsSend Runtime.the_row
  runtime_send = let a = book_send in let b = ledger_send in let c = stacks.stack_send in search lists depth 60 fits 20000

pub returns : goal.returns
returns c =
    let t = c.trees_cross_threads.ensures.trees in
    let s = c.stacks_cross_threads.ensures.stacks in
    let w = c.worlds_cross_threads.ensures.worlds in
    record { runtimes = record { ledger_send = ledger_send; book_send = book_send t s w; runtime_send = runtime_send t s w } }
