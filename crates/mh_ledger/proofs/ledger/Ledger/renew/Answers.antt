use Rattle.std.proofs.Common.{ℕ, List, sym, subst}
use Rattle.mh_ledger.specs.Ledgers.{LedgerState, IsLedger}
use Rattle.mh_ledger.specs.Laws.Renewing.{renewed_ledger_sound}
use Rattle.mh_ledger.proofs.ledger.Ledger.renew.Goals as goal

abbrev ledger_of : ℕ → ℕ → List ℕ → List ℕ → LedgerState
ledger_of worker limit unflushed flushed = record { worker = worker; limit = limit; unflushed = unflushed; flushed = flushed }

pub invariant_of-self : goal.invariant_of-self
invariant_of-self c =
    let x = c.self.inside in
    subst (λ (left : List ℕ). IsLedger (ledger_of x.worker x.limit x.unflushed.items left)) (sym c.lessen.ensures.value)
    (renewed_ledger_sound c.args.hits (ledger_of x.worker x.limit x.unflushed.items x.flushed.items) c.self.invariant)
