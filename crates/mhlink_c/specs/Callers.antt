-- Callers of C as contracts see them, and the effects of calls and looks.
use Rattle.std.specs.Prelude.{◌≡◌, ℕ, List, Option, None, refl}
use Rattle.std.specs.Coded.{Coded, code_by, coded×, coded_ℕ, coded_list, coded_option}
use Rattle.mh_base.specs.Tests.{Passes}
use Rattle.mh_core.specs.Callers.{Counts}
use Rattle.mh_core.specs.Value.{Value}
use Rattle.mh_core.specs.declared.refusal.Refusal.{Refusal}
use Rattle.mh_ledger.specs.Ledgers.{LedgerState}
use Rattle.mh_share.specs.Callers.{CallerState, call_tests, coded_caller}
use Rattle.mh_share.specs.Desks.{RefusesLook}
use Rattle.mhlink_c.specs.Calls.{answer_after}
use Rattle.mhlink_c.specs.Crossing.{IsReply, text_of_reply}
use Rattle.mhlink_c.specs.Desks.{HeldDeskState}
use Rattle.mhlink_c.specs.declared.failure.Failure.{Failure}
use Rattle.mhlink_c.specs.declared.failure.Failure.TheVariants.{Refused}
use Rattle.mhlink_c.specs.declared.value.MhlinkReply.{MhlinkReply}

-- the caller, and the text that its last call returned
pub record HeldCallerState : Type 0 where
  pub caller : CallerState
  pub given : Option (List ℕ)

abbrev pub coded_held_caller : Coded HeldCallerState
coded_held_caller = code_by (CallerState × Option (List ℕ)) (coded× coded_caller (coded_option (coded_list coded_ℕ))) (λ h. (h.caller, h.given)) (λ p. record { caller = p.0; given = p.1 }) (λ _. refl)

-- before its first call
abbrev pub opened_held_caller : CallerState → HeldCallerState
opened_held_caller c = record { caller = c; given = None }

-- a call with these arguments, after the records of the last look: its reply, its hit, and its text, which is kept until the next one
pub record CallerAnswers (h : HeldCallerState) (s : ℕ) (reply : MhlinkReply) (new : HeldCallerState) (a : List Value) : Type 0 where
  pub passes : Passes (call_tests h.caller s a)
  pub answer : IsReply reply (answer_after h.caller.shown s a)
  pub counted : Counts h.caller.shown.definition s a h.caller.ledger new.caller.ledger
  pub given : new.given ≡ text_of_reply (answer_after h.caller.shown s a)

-- the caller uses the state that the desk published, and its ledger and its text stay
abbrev pub looks : HeldDeskState → HeldCallerState → HeldCallerState
looks desk h = record { caller = record { shown = desk.desk.shown; ledger = h.caller.ledger }; given = h.given }

-- the desk does not hold the caller's ledger, or memory ran out
abbrev pub RefusesToLook : HeldDeskState → LedgerState → Failure → Type 0
RefusesToLook desk ledger e = (told : Refusal) × ((e ≡ Refused told) × RefusesLook desk.desk.book ledger told)

-- the caller's ledger is this, and the state of its last look and its text stay
abbrev pub with_ledger : HeldCallerState → LedgerState → HeldCallerState
with_ledger h ledger = record { caller = record { shown = h.caller.shown; ledger = ledger }; given = h.given }
