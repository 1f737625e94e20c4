-- Desks and callers may go to another thread, part by part.
use denote.Param.Send.{IsSend, IsSync, part_keyless, sendable}
use Rattle.std.proofs.Crossing as crossing
use Rattle.std.proofs.alloc.Global.TheSendSync as global
use Rattle.mh_run.specs.Laws.Crossing.{StacksCross}
use Rattle.mh_site.specs.Laws.Crossing.{WorldsCross}
use Rattle.mh_core.specs.Laws.Crossing.{RuntimesCross}
use Rattle.mh_share.specs.contracts.caller.Caller as Caller
use Rattle.mh_share.specs.contracts.desk.Desk as Desk
use Rattle.mh_share.specs.contracts.past.Past as Past
use Rattle.mh_share.specs.contracts.shown.Shown as Shown

ruleset plain = (global.the_field_send, global.the_field_sync, crossing.crosses, sendable)

past_send : IsSend Past.the_row
past_send = search plain depth 60 fits 20000

past_sync : IsSync Past.the_row
past_sync = record { shared = λ d b o κ q. part_keyless Past.the_row past_send q d b o }

module _ (stacks : StacksCross) (worlds : WorldsCross) (runtimes : RuntimesCross) where
  shown_send : IsSend Shown.the_row
  shown_send = let a = worlds.world_send in let b = worlds.definition_send in search plain depth 60 fits 20000

  shown_sync : IsSync Shown.the_row
  shown_sync = let a = worlds.world_sync in let b = worlds.definition_sync in let c = past_sync in search plain depth 60 fits 20000

  pub caller_send : IsSend Caller.the_row
  caller_send =
      let a = shown_send in
      let b = shown_sync in
      let c = runtimes.ledger_send in
      let d = stacks.stack_send in
      search plain depth 60 fits 20000

  pub desk_send : IsSend Desk.the_row
  desk_send = let a = shown_send in let b = shown_sync in let c = runtimes.book_send in search plain depth 60 fits 20000
