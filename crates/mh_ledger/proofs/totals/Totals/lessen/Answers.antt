use Rattle.std.proofs.Common.{◌≡◌, length, ap, sym, ◌∙◌, arith}
use Rattle.std.proofs.lemmas.List.{length-map}
use Rattle.mh_ledger.specs.Ledgers.{TotalsState}
use Rattle.mh_ledger.specs.Laws.Renewing.{all_lessened}
use Rattle.mh_ledger.proofs.Taken.{items_of}
use Rattle.mh_ledger.proofs.totals.Totals.lessen.Goals as goal

pub returns-clause-value : goal.returns-clause-value
returns-clause-value c =
    let i = c.loop-worker.invariant in
    let x = c.self.inside in
    let count : length c.args.self.now.shares ≡ length x.shares.items = ap (λ (t : TotalsState). length t.shares) (sym c.self.view_is) ∙ length-map x.shares.items items_of in
    all_lessened c.args.hits c.args.self.now c.loop-worker.self i.totals i.limit i.links i.same (λ w inside. i.before w (omega (arith, inside, count)))
