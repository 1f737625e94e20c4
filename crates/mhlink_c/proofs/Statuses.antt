-- No refusal has the number 0, and each is told by itself.
use Rattle.std.proofs.Common.{◌≡◌, ◌≢◌, ◌≤◌, ℕ, Result, Ok, Err, arith}
use Rattle.std.specs.Prelude.{IfErr, OnOk}
use Rattle.mh_core.specs.declared.refusal.Refusal.{Refusal}
use Rattle.mh_core.specs.declared.refusal.Refusal.TheVariants.{NoMemory, HistoryFull, NoSite, NoPoint, WrongType, NoSnapshot, NoPlan, PlanRefused, OldPlan, TotalTooLarge, LedgerFull, GainTooLarge, NoWorker, WrongLevel}
use Rattle.mh_core.specs.Refusals.{refusal_number}
use Rattle.mhlink_c.specs.Statuses.{status_of}
use Rattle.mhlink_c.specs.declared.failure.Failure.{Failure}
use Rattle.mhlink_c.specs.declared.failure.Failure.TheVariants.{Refused}

pub some_number : (told : Refusal) → 1 ≤ refusal_number told
some_number NoMemory = omega arith
some_number HistoryFull = omega arith
some_number NoSite = omega arith
some_number NoPoint = omega arith
some_number WrongType = omega arith
some_number NoSnapshot = omega arith
some_number NoPlan = omega arith
some_number (PlanRefused fault) = omega arith
some_number (OldPlan newest) = omega arith
some_number TotalTooLarge = omega arith
some_number LedgerFull = omega arith
some_number GainTooLarge = omega arith
some_number NoWorker = omega arith
some_number WrongLevel = omega arith

pub same_refusal : (told other : Refusal) → Refused told ≡ Refused other → told ≡ other
same_refusal told other is = cc

-- a status that is not 0 is that of the fault
pub told_by : {X : Type 0} (r : Result X Failure) (n : ℕ) (P : Failure → Type 0) → OnOk r (n ≡ 0) → IfErr r (λ e. n ≡ status_of e) → IfErr r P → n ≢ 0 → (e : Failure) × ((n ≡ status_of e) × P e)
told_by (Ok x) n P ok status is some = absurd (some ok)
told_by (Err e) n P ok status is some = (e, (status, is))
