use Rattle.std.proofs.Common.{◌<◌, length, subst, sym, ap, ◌∙◌}
use Rattle.std.proofs.lemmas.Grind.{get_or_default_zero}
use Rattle.mh_ledger.specs.Ledgers.{at, IsTotals, TotalsState}
use Rattle.mh_ledger.proofs.Held.{held_sum}
use Rattle.mh_ledger.proofs.totals.Totals.total.Goals as goal

pub returns-clause-ledgers : goal.returns-clause-ledgers
returns-clause-ledgers c ledgers are =
    let inside = subst (λ (t : TotalsState). c.args.link < length t.total) (sym c.self.view_is) c.requires.inside in
    c.index.ensures ∙ (get_or_default_zero c.self.inside.totals.items c.args.link c.index.result.now inside
    ∙ (ap (λ (t : TotalsState). at t.total c.args.link) c.self.view_is ∙ held_sum c.args.self.now ledgers c.args.link (subst IsTotals c.self.view_is c.self.invariant) are))
