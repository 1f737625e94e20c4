-- The effect of a renewal on a desk and its callers, and its refusals.
use Rattle.std.specs.Prelude.{◌≡◌, ℕ, List, [], ◌∷◌, length, map}
use Rattle.mh_base.specs.Tests.{Tests, test, only}
use Rattle.mh_ledger.specs.Ledgers.{AreHeld, Holds, LedgerState}
use Rattle.mh_ledger.specs.Renewals.{renewed_ledger}
use Rattle.mh_ledger.specs.declared.old_hits.OldHits.{OldHits}
use Rattle.mh_core.specs.Books.{BookState}
use Rattle.mh_core.specs.Refusals.{take_memory}
use Rattle.mh_core.specs.Renewals.{renewal_tests}
use Rattle.mh_core.specs.declared.refusal.Refusal.{Refusal}
use Rattle.mh_core.specs.declared.refusal.Refusal.TheVariants.{NoWorker}
use Rattle.mh_share.specs.Callers.{CallerState}

-- the caller with another ledger, by the same world
abbrev pub with_ledger : CallerState → LedgerState → CallerState
with_ledger c l = record { shown = c.shown; ledger = l }

-- the flushed hits of its ledger are reduced to the part that is kept; the world of its last look does not change
abbrev pub renewed_caller : OldHits → CallerState → CallerState
renewed_caller h c = with_ledger c (renewed_ledger h c.ledger)

-- each owner of a ledger with the one at its index, as far as there are ledgers
abbrev pub with_each : {C : Type 0} → (C → LedgerState → C) → List C → List LedgerState → List C
with_each put [] ls = []
with_each put (c ∷ cs) [] = c ∷ cs
with_each put (c ∷ cs) (l ∷ ls) = put c l ∷ with_each put cs ls

abbrev pub ledgers_of : List CallerState → List LedgerState
ledgers_of callers = map (λ c. c.ledger) callers

-- the ledger is that of this worker, and the book holds it
abbrev pub IsOf : BookState → ℕ → LedgerState → Type 0
IsOf b w l = (l.worker ≡ w) × Holds b.totals l

-- the tests of a renewal with these ledgers: there is a held one of each worker, in order; there may be no memory for their exchange; and
-- those of the book
abbrev pub desk_tests : BookState → List LedgerState → List ℕ → Tests Refusal
desk_tests b ledgers again =
    test (AreHeld b.totals ledgers) (only NoWorker) (take_memory (renewal_tests b.definition b.limits (length ledgers) again))
