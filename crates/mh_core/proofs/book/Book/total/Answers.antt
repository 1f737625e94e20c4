use Rattle.std.proofs.Common.{◌≡◌, ◌∙◌, ap, length, arith}
use Rattle.mh_ledger.specs.Ledgers.{TotalsState, at}
use Rattle.mh_core.specs.Records.{total}
use Rattle.mh_core.specs.Laws.PastSnapshots.{total_within}
use Rattle.mh_core.proofs.book.Book.total.Goals as goal

pub total-requires : goal.total-requires
total-requires c =
    let same = ap (λ (t : TotalsState). length t.total) c.totals.ensures.value in
    record { inside = omega (arith, c.requires.inside, same, c.totals.ensures.book.totals.count) }

pub returns : goal.returns
returns c =
    let now = c.args.self.now in
    let is = c.totals.ensures.book in
    let value : c.total.result ≡ total now.records c.args.link =
    c.total.ensures.value ∙ (ap (λ (t : TotalsState). at t.total c.args.link) c.totals.ensures.value ∙ is.totals.sums c.args.link c.requires.inside) in
    record {
      value = value;
      within = omega (arith, value, total_within now.definition now.limits now.records c.args.link is.legal c.requires.inside, is.limits.total);
    }
