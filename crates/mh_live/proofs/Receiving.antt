-- What threads know of an office's answers: they stand over some legal records.
use Rattle.std.proofs.Common.{◌≡◌, ◌⊎◌, ℕ, List, [], ◌∷◌, ◌++◌, Result, IfErr, IfOk, refl, ap, subst, ◌∙◌, arith}
use Rattle.std.proofs.lemmas.Result.{MatchResult-weaker}
use Rattle.std.specs.Prelude.{reverse}
use Rattle.mh_ledger.specs.Ledgers.{IsTotals, LedgerState}
use Rattle.mh_tree.specs.Handle.{TypedTree}
use Rattle.mh_network.specs.Problems.{ProblemData}
use Rattle.mh_site.specs.Controls.{Relinked}
use Rattle.mh_site.specs.Defined.{DefinitionData}
use Rattle.mh_site.specs.declared.control.Control.{Control}
use Rattle.mh_site.specs.declared.control.Control.TheVariants as control
use Rattle.mh_core.specs.Books.{AreTotals, BookState, Legal}
use Rattle.mh_core.specs.Limits.{LimitsData}
use Rattle.mh_core.specs.Problems.{IsTaken, problem_at}
use Rattle.mh_core.specs.Records.{hits_in}
use Rattle.mh_core.specs.Replayed.{changes, controls}
use Rattle.mh_core.specs.Rows.{tests_of_record}
use Rattle.mh_base.specs.Tests.{Passes}
use Rattle.mh_core.specs.declared.record.Record.{Record}
use Rattle.mh_core.specs.declared.record.Record.TheVariants.{Flushed, Targeted, Invalidated, Installed}
use Rattle.mh_core.specs.declared.refusal.Refusal.{Refusal}
use Rattle.mh_core.specs.declared.refusal.Refusal.TheVariants.{NoMemory, NoSnapshot}
use Rattle.mh_core.specs.Laws.{oldest_push}
use Rattle.mh_live.specs.Offices.{AreTotalsOf, OfficeState, ReceiptState}
use Rattle.mh_live.specs.Receipts.{Accepts, Changes, IsFlushRefusal, IsLegalFault, IsLegalRefusal, IsNoProblem, IsOffice, IsProblem, IsReceipt, IsRefusal}
use Rattle.mh_live.specs.declared.flush_fault.FlushFault.{FlushFault}
use Rattle.mh_live.specs.declared.flush_fault.FlushFault.TheVariants.{NotHeld, Refused}

-- what holds of the definition and the limits of its book
pub within : {d : DefinitionData} {l : LimitsData} {n : ℕ} {o : OfficeState} → IsOffice d l n o → (P : DefinitionData → LimitsData → Type 0) → P o.book.definition o.book.limits → P d l
within {d} {l} {n} {o} office P holds = subst (P d) office.limits (subst (λ (x : DefinitionData). P x o.book.limits) office.definition holds)

pub receipt_of : (d : DefinitionData) (l : LimitsData) (n : ℕ) (o new : OfficeState) (e : Record) (r : ReceiptState) → IsOffice d l n o → Accepts o e r new → IsReceipt d l e r
receipt_of d l n o new e r office accepts =
    let b : BookState = o.book in
    within office (λ x l. IsReceipt x l e r)
    record {
      before = b.records;
      legal = office.lawful.legal;
      passes = subst (λ (n : ℕ). Passes (tests_of_record b.definition b.limits n b.records e)) (omega arith) accepts.takes.passes;
      answers = accepts.answers;
      told_list = accepts.told_list ∙ (ap (λ (x : DefinitionData). reverse (controls x new.book.records)) accepts.takes.definition ∙ ap (λ (rs : List Record). reverse (controls b.definition rs)) accepts.takes.records);
    }

pub refusal_of : (d : DefinitionData) (l : LimitsData) (n : ℕ) (o : OfficeState) (e : Record) (told : Refusal) → IsOffice d l n o → IsLegalRefusal o.book e told → IsRefusal d l e told
refusal_of d l n o e told office refuses =
    within office (λ x l. IsRefusal x l e told)
    record { before = o.book.records; legal = office.lawful.legal; refuses = refuses }

-- of a change of the world
pub receipt_of_change : (d : DefinitionData) (l : LimitsData) (n : ℕ) (o new : OfficeState) (e : Record) (result : Result ReceiptState Refusal) → Changes d l n o e result new → IfOk result (IsReceipt d l e)
receipt_of_change d l n o new e result is = MatchResult-weaker result is.accepted (λ r accepts. receipt_of d l n o new e r is.office accepts) (λ _ always. always)

pub refusal_of_change : (d : DefinitionData) (l : LimitsData) (n : ℕ) (o new : OfficeState) (e : Record) (result : Result ReceiptState Refusal) → Changes d l n o e result new → IfErr result (IsRefusal d l e)
refusal_of_change d l n o new e result is = MatchResult-weaker result is.refused (λ _ always. always) (λ told legal. refusal_of d l n o e told is.office legal)

-- its totals are those of its records
abbrev pub totals_of : (d : DefinitionData) (l : LimitsData) (n : ℕ) (o : OfficeState) → IsOffice d l n o → IsTotals o.book.totals → AreTotalsOf d l n o.book.totals
totals_of d l n o office lawful = record {
  records = o.book.records;
  legal = within office (λ x m. Legal x m o.book.records) office.lawful.legal;
  sums = within office (λ x m. AreTotals x m o.book.records o.book.totals) office.lawful.totals;
  shares = office.shares;
  lawful = lawful;
}

pub flush_refusal_of : (d : DefinitionData) (l : LimitsData) (n : ℕ) (o : OfficeState) (ledger : LedgerState) (fault : FlushFault) → IsOffice d l n o → IsTotals o.book.totals → IsLegalFault o.book ledger fault → IsFlushRefusal d l n ledger fault
flush_refusal_of d l n o ledger NotHeld office lawful legal = (o.book.totals, totals_of d l n o office lawful, legal)
flush_refusal_of d l n o ledger (Refused told) office lawful legal = refusal_of d l n o (Flushed ledger.worker (hits_in ledger.unflushed)) told office legal.1

-- ---- the list of a control's receipt ends with it
ends_with : (d : DefinitionData) (before : List Record) (e : Record) (c : Control) (front : List Control) → controls d (e ∷ before) ≡ c ∷ controls d before → front ≡ reverse (controls d (e ∷ before))
    → front ≡ reverse (controls d before) ++ c ∷ []
ends_with d before e c front changes is = is ∙ (ap reverse changes ∙ oldest_push c (controls d before))

pub target_ends : (d : DefinitionData) (l : LimitsData) (s : ℕ) (tree : TypedTree) (r : ReceiptState) → IsReceipt d l (Targeted s tree) r → (before : List Control) × (r.front ≡ before ++ control.Target record { site = s; tree = tree } ∷ [])
target_ends d l s tree r is = (reverse (controls d is.before), ends_with d is.before (Targeted s tree) (control.Target record { site = s; tree = tree }) r.front refl is.told_list)

pub invalidation_ends : (d : DefinitionData) (l : LimitsData) (points : List ℕ) (r : ReceiptState) → IsReceipt d l (Invalidated points) r → (before : List Control) × (r.front ≡ before ++ control.Invalidate points ∷ [])
invalidation_ends d l points r is = (reverse (controls d is.before), ends_with d is.before (Invalidated points) (control.Invalidate points) r.front refl is.told_list)

pub installation_ends : (d : DefinitionData) (l : LimitsData) (plan : ℕ) (r : ReceiptState) → IsReceipt d l (Installed plan) r
    → (before : List Control) × (relinked : List Relinked) × (r.front ≡ before ++ control.Install relinked ∷ [])
installation_ends d l plan r is =
    (reverse (controls d is.before), changes d is.before plan, ends_with d is.before (Installed plan) (control.Install (changes d is.before plan)) r.front refl is.told_list)

-- ---- problems
pub problem_of : (d : DefinitionData) (l : LimitsData) (w : ℕ) (o : OfficeState) (n : ℕ) (p : ProblemData) → IsOffice d l w o → IsTaken o.book.records n → p ≡ problem_at o.book.definition o.book.records n → IsProblem d l n p
problem_of d l w o n p office taken is =
    within office (λ x l. IsProblem x l n p) record { before = o.book.records; legal = office.lawful.legal; taken = taken; value = is }

pub no_problem_of : (d : DefinitionData) (l : LimitsData) (w : ℕ) (o : OfficeState) (n : ℕ) (told : Refusal) → IsOffice d l w o → ((told ≡ NoSnapshot) × (IsTaken o.book.records n → ⊥)) ⊎ ((told ≡ NoMemory) × IsTaken o.book.records n) → IsNoProblem d l n told
no_problem_of d l w o n told office refuses =
    within office (λ x l. IsNoProblem x l n told) record { before = o.book.records; legal = office.lawful.legal; refuses = refuses }
