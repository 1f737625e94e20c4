use Rattle.std.proofs.Common.{◌∙◌, ap, length, refl, subst, sym}
use Rattle.mh_ledger.specs.Laws.{held_links}
use Rattle.mh_ledger.specs.Ledgers.{IsTotals}
use Rattle.mh_site.specs.Links.{links}
use Rattle.mh_share.specs.Desks.{DeskState}
use Rattle.mh_share.proofs.Results.{on_ok}
use Rattle.mh_share.proofs.desk.Desk.shown_to.Goals as goal

pub returns-clause-links : goal.returns-clause-links
returns-clause-links c =
    let b = c.self.inside.book in
    let totals = subst IsTotals c.totals.ensures.value c.limit-most.ensures.totals in
    let of_book = sym (held_links b.totals c.args.ledger.now totals c.limit-limit.ensures.ledger (c.if-not-holds.ensures.decides.0 refl)) ∙ c.totals.ensures.book.totals.count in
    on_ok c.map_err.result _ (of_book ∙ (ap length (sym c.self.invariant) ∙ ap (λ (d : DeskState). length (links d.shown.definition)) c.self.view_is))
