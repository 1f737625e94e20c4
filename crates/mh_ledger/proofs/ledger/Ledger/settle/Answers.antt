use Rattle.std.proofs.Common.{◌≡◌, ◌<◌, ◌≤◌, ◌^◌, ℕ, List, ap, sym, subst, ◌∙◌, length}
use Rattle.mh_ledger.specs.Ledgers.{LedgerState, IsLedger, added, made}
use Rattle.mh_ledger.specs.Laws.Added.{settled_sound}
use Rattle.mh_ledger.proofs.ledger.Ledger.settle.Goals as goal

abbrev ledger_of : ℕ → ℕ → List ℕ → List ℕ → LedgerState
ledger_of worker limit unflushed flushed = record { worker = worker; limit = limit; unflushed = unflushed; flushed = flushed }

pub invariant_of-self : goal.invariant_of-self
invariant_of-self c =
    let x = c.self.inside in
    let l = ledger_of x.worker x.limit x.unflushed.items x.flushed.items in
    let fits = subst (λ (k : LedgerState). (j : ℕ) → j < length k.unflushed → made k j ≤ 2 ^ 62) (sym c.self.view_is) c.requires.fits in
    let sums : c.add.new.sums.items ≡ added x.flushed.items x.unflushed.items = c.add.ensures.value ∙ ap (added x.flushed.items) c.deref.ensures.value in
    subst (λ (f : List ℕ). IsLedger (ledger_of x.worker x.limit c.clear.new.numbers.items f)) (sym sums)
    (subst (λ (u : List ℕ). IsLedger (ledger_of x.worker x.limit u (added x.flushed.items x.unflushed.items))) (sym c.clear.ensures.value) (settled_sound l c.self.invariant fits))
