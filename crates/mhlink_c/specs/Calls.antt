-- Calls and their failures.
use Rattle.std.specs.Prelude.{◌≡◌, ◌⊎◌, ◌≤◌, ℕ, List, length}
use Rattle.mh_base.specs.Tests.{Passes, Tests}
use Rattle.mh_type.specs.Limits.{most_parameters}
use Rattle.mh_core.specs.Books.{BookState}
use Rattle.mh_core.specs.Legal.{answer_of_call}
use Rattle.mh_core.specs.Runtimes.{CountsHit, TakesNoMemory, call_tests}
use Rattle.mh_core.specs.Value.{Value}
use Rattle.mh_core.specs.declared.refusal.Refusal.{Refusal}
use Rattle.mh_core.specs.declared.reply.Reply.{Reply}
use Rattle.mhlink_c.specs.Crossing.{AreNoValues, AreValues, HaveNoText, IsReply, text_of_reply}
use Rattle.mhlink_c.specs.Hosts.{HostState}
use Rattle.mhlink_c.specs.Statuses.{IsRefusedBy, no_memory}
use Rattle.mhlink_c.specs.declared.failure.Failure.{Failure}
use Rattle.mhlink_c.specs.declared.failure.Failure.TheVariants.{BadValue}
use Rattle.mhlink_c.specs.declared.value.MhlinkReply.{MhlinkReply}
use Rattle.mhlink_c.specs.declared.value.MhlinkValue.{MhlinkValue}

-- the answer of a call after the records of a book
abbrev pub answer_after : BookState → ℕ → List Value → Reply
answer_after b s a = answer_of_call b.definition b.records s a

-- a worker's call with these arguments: its reply, its hit, and its text, which is kept until the next one
pub record Answers (h : HostState) (w s : ℕ) (reply : MhlinkReply) (new : HostState) (a : List Value) : Type 0 where
  pub passes : Passes (call_tests h.runtime w s a)
  pub answer : IsReply reply (answer_after h.runtime.book s a)
  pub counted : CountsHit h.runtime.book.definition w s a h.runtime.ledgers new.runtime.ledgers
  pub given : new.given ≡ text_of_reply (answer_after h.runtime.book s a)

-- a call with the values that C passes
abbrev pub WithValues : List MhlinkValue → List ℕ → (List Value → Type 0) → Type 0
WithValues values texts Answered = (a : List Value) × (AreValues values texts a × Answered a)

-- a call that does not allocate: with at most 16 values, none of them a text, for which no node that is evaluated has String in its type
abbrev pub AsksForNone : BookState → ℕ → List MhlinkValue → List ℕ → Type 0
AsksForNone b s values texts =
    HaveNoText values × ((length values ≤ most_parameters) × ((a : List Value) → AreValues values texts a → TakesNoMemory b s a))

-- an argument is not a value, memory ran out in reading them, or the first failing test of the call with them
abbrev pub RefusesCall : (List Value → Tests Refusal) → List MhlinkValue → List ℕ → Failure → Type 0
RefusesCall tests values texts e =
    ((e ≡ BadValue) × AreNoValues values texts) ⊎ (e ≡ no_memory) ⊎ ((a : List Value) × (AreValues values texts a × IsRefusedBy (tests a) e))
