use Rattle.std.proofs.Common.{◌≡◌, ◌∙◌, List, ap, length, subst, sym}
use Rattle.std.specs.List.{All}
use Rattle.mh_ledger.specs.Laws.{opened_lengths}
use Rattle.mh_ledger.specs.Ledgers.{LedgerState, TotalsState}
use Rattle.mh_share.specs.Desks.{DeskState}
use Rattle.mh_share.proofs.desk.Desk.spare_ledgers.Goals as goal

pub returns-clause-links : goal.returns-clause-links
returns-clause-links c k d inside =
    let links = c.links.result in
    let each = subst (All (λ (l : LedgerState). length l.unflushed ≡ links)) (sym c.in_ok-_totals.ensures.ledgers) (opened_lengths links 0 c.workers.result) in
    each k d inside
    ∙ (c.links.ensures.count ∙ (ap (λ (t : TotalsState). length t.total) c.totals-totals.ensures.value ∙ ap (λ (s : DeskState). length s.book.totals.total) c.self.view_is))
