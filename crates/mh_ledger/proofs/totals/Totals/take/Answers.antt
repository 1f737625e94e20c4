use Rattle.std.proofs.Common.{subst, sym, ap, ◌∙◌}
use Rattle.mh_ledger.specs.Ledgers.{flushed_into, FlushFits, Holds, IsTotals, TotalsState, totals_state}
use Rattle.mh_ledger.specs.Laws.Flushes.{flushed_sound}
use Rattle.mh_ledger.proofs.Taken.{taken}
use Rattle.mh_ledger.proofs.totals.Totals.take.Goals as goal

pub invariant_of-self : goal.invariant_of-self
invariant_of-self c =
    let x = c.self.inside in
    let l = c.args.ledger.now in
    let held = subst (λ (t : TotalsState). Holds t l) (sym c.self.view_is) c.requires.held in
    let room = subst (λ (t : TotalsState). FlushFits t l) (sym c.self.view_is) c.requires.room in
    subst IsTotals
    (sym (taken x.limit x.totals.items c.add.new.sums.items x.shares.items c.worker.result c.index_mut.result.now c.add-2.new.sums c.unflushed_hits-hits.result.now l
    c.unflushed_hits-hits.ensures.value c.worker.ensures.value c.add.ensures.value c.index_mut.ensures.value c.add-2.ensures.value held))
    (flushed_sound (totals_state x) l c.self.invariant c.worker.ensures.ledger held room)

pub returns : goal.returns
returns c =
    let x = c.self.inside in
    let l = c.args.ledger.now in
    let held = subst (λ (t : TotalsState). Holds t l) (sym c.self.view_is) c.requires.held in
    record {
      value =
          taken x.limit x.totals.items c.add.new.sums.items x.shares.items c.worker.result c.index_mut.result.now c.add-2.new.sums c.unflushed_hits-hits.result.now l
          c.unflushed_hits-hits.ensures.value c.worker.ensures.value c.add.ensures.value c.index_mut.ensures.value c.add-2.ensures.value held
          ∙ ap (λ (t : TotalsState). flushed_into t l) c.self.view_is;
      totals = subst IsTotals c.self.view_is c.self.invariant;
      ledger = c.worker.ensures.ledger;
    }
