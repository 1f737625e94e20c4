use Rattle.std.proofs.Common.{List, map, ap, sym, subst, ◌∙◌}
use Rattle.mh_ledger.specs.declared.old_hits.OldHits.{OldHits}
use Rattle.mh_ledger.specs.Ledgers.{at, AreHeld, LedgerState, TotalsState}
use Rattle.mh_ledger.specs.Renewals.{renewed_ledger, renewed_totals}
use Rattle.mh_ledger.specs.Laws.Renewing.{kept_ledgers, kept_totals, left_total, renewed_held}
use Rattle.mh_ledger.proofs.totals.Totals.renew.Goals as goal

pub returns-clause-held : goal.returns-clause-held
returns-clause-held c =
    subst (λ (t : TotalsState). AreHeld t c.renew_all.new.ledgers.items) (sym c.lessen.ensures.value)
    (subst (AreHeld (renewed_totals c.args.hits c.args.self.now)) (sym c.renew_all.ensures.value) (renewed_held c.args.hits c.args.self.now c.args.ledgers.now.items c.requires.held))

pub returns-clause-left : goal.returns-clause-left
returns-clause-left c j = ap (λ (t : TotalsState). at t.total j) c.lessen.ensures.value ∙ left_total c.args.hits c.args.self.now c.lessen.ensures.totals j

pub returns-clause-kept : goal.returns-clause-kept
returns-clause-kept c keep =
    let t = c.args.self.now in
    let ledgers = c.args.ledgers.now.items in (
      c.lessen.ensures.value ∙ (ap (λ (h : OldHits). renewed_totals h t) keep ∙ kept_totals t c.lessen.ensures.totals),
      c.renew_all.ensures.value ∙ (ap (λ (h : OldHits). map (renewed_ledger h) ledgers) keep ∙ kept_ledgers ledgers),
    )
