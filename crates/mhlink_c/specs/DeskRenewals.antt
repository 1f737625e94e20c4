-- Renewals of desks of C with their callers, and their failures.
use Rattle.std.specs.Prelude.{◌≡◌, ◌⊎◌, ◌<◌, ℕ, List, length, map}
use Rattle.mh_ledger.specs.Ledgers.{AreHeld, LedgerState}
use Rattle.mh_ledger.specs.Renewals.{renewed_ledger}
use Rattle.mh_ledger.specs.declared.old_hits.OldHits.{OldHits}
use Rattle.mh_core.specs.Links.{links as links_of}
use Rattle.mh_core.specs.Renewals.{MeansTheSame, Renews}
use Rattle.mh_share.specs.Renewals.{desk_tests}
use Rattle.mhlink_c.specs.Callers.{HeldCallerState, with_ledger}
use Rattle.mhlink_c.specs.Desks.{HeldDeskState}
use Rattle.mhlink_c.specs.Renewals.{IsFresh, hits_number}
use Rattle.mhlink_c.specs.Statuses.{IsRefusedBy}
use Rattle.mhlink_c.specs.declared.caller_handle.MhlinkCaller.{MhlinkCaller}
use Rattle.mhlink_c.specs.declared.failure.Failure.{Failure}
use Rattle.mhlink_c.specs.declared.failure.Failure.TheVariants.{Unknown}

-- the callers that these handles lead to
abbrev pub callers_of : List MhlinkCaller → List HeldCallerState
callers_of handles = map (λ h. h.value) handles

abbrev pub ledgers_of : List HeldCallerState → List LedgerState
ledgers_of callers = map (λ h. h.caller.ledger) callers

-- its ledger keeps the part of its flushed hits that is kept; the state of its last look and its text stay
abbrev pub renewed_caller : OldHits → HeldCallerState → HeldCallerState
renewed_caller hits h = with_ledger h (renewed_ledger hits h.caller.ledger)

-- a new history begins, in which these points are valid again, with the part of the flushed hits that is kept: of all callers, one of each worker
-- in order, which the desk then holds too; the published state and the names stay
pub record DeskBeginsAnew (h : HeldDeskState) (callers : List HeldCallerState) (again : List ℕ) (hits : OldHits) (new : HeldDeskState) (after : List HeldCallerState) : Type 0 where
  pub held : AreHeld h.desk.book.totals (ledgers_of callers)
  pub passes : length callers < h.desk.book.limits.history
  pub renewed : Renews again hits h.desk.book new.desk.book
  pub means : MeansTheSame again h.desk.book new.desk.book
  pub links : links_of new.desk.book.definition ≡ links_of h.desk.book.definition
  pub each : after ≡ map (renewed_caller hits) callers
  pub all : AreHeld new.desk.book.totals (ledgers_of after)
  pub fresh : IsFresh new.desk.book (length callers)
  pub shown : new.desk.shown ≡ h.desk.shown
  pub scope : new.scope ≡ h.scope

-- the first failing test of a renewal with these callers
abbrev pub RefusesDeskAnew : HeldDeskState → List HeldCallerState → List ℕ → Failure → Type 0
RefusesDeskAnew h callers again e = IsRefusedBy (desk_tests h.desk.book (ledgers_of callers) again) e

-- by the number from C
abbrev pub IsRenewedDesk : HeldDeskState → List HeldCallerState → List ℕ → ℕ → HeldDeskState → List HeldCallerState → Type 0
IsRenewedDesk h callers again number new after =
    (hits : OldHits) × ((number ≡ hits_number hits) × DeskBeginsAnew h callers again hits new after)

-- the number is none of these, or the first failing test of a renewal
abbrev pub RefusesDeskRenewal : HeldDeskState → List HeldCallerState → List ℕ → ℕ → Failure → Type 0
RefusesDeskRenewal h callers again number e =
    (((hits : OldHits) → number ≡ hits_number hits → ⊥) × (e ≡ Unknown))
    ⊎ ((hits : OldHits) × ((number ≡ hits_number hits) × RefusesDeskAnew h callers again e))
