-- The effect of an event that a machine answers.
use Rattle.std.specs.Prelude.{◌≡◌, ℕ, Result, Ok, Err}
use Rattle.mh_type.specs.declared.outcome.Outcome.{Outcome}
use Rattle.mh_core.specs.declared.event.Event.{Event}
use Rattle.mh_core.specs.declared.event.Event.TheVariants.{Call, Flush, Target, Invalidate, Snapshot, Publish, Install}
use Rattle.mh_core.specs.declared.refusal.Refusal.{Refusal}
use Rattle.mh_core.specs.declared.reply.Reply.{Reply}
use Rattle.mh_core.specs.declared.reply.Reply.TheVariants.{Called, Refused}
use Rattle.mh_core.specs.Legal.{MachineState, answer, extended, tests}
use Rattle.mh_base.specs.Tests.{Passes, Refuses}

-- an event other than a call
abbrev pub IsNoCall : Event → Type 0
IsNoCall (Call w s a) = ⊥
IsNoCall (Flush w) = Unit {0}
IsNoCall (Target s tree) = Unit {0}
IsNoCall (Invalidate points) = Unit {0}
IsNoCall Snapshot = Unit {0}
IsNoCall (Publish n plan) = Unit {0}
IsNoCall (Install m) = Unit {0}

-- the event passes its tests, has this reply, and is the newest of the history
pub record IsAccepted (m : MachineState) (e : Event) (reply : Reply) (new : MachineState) : Type 0 where
  pub passes : Passes (tests m.setting m.history e)
  pub answers : reply ≡ answer m.setting m.history e
  pub taken : new ≡ extended m e

-- the first failing test of the event is reported, or lack of memory if none fails, and nothing changes
pub record IsRefused (m : MachineState) (e : Event) (told : Refusal) (new : MachineState) : Type 0 where
  pub refuses : Refuses (tests m.setting m.history e) told
  pub same : new ≡ m

-- the reply to an event, and the one to a call, from its result
abbrev pub reply_of : Result Reply Refusal → Reply
reply_of (Ok reply) = reply
reply_of (Err told) = Refused told

abbrev pub call_reply : Result (Outcome × ℕ) Refusal → Reply
call_reply (Ok (outcome, steps)) = Called outcome steps
call_reply (Err told) = Refused told
