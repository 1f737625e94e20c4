use Rattle.std.proofs.Common.{subst, sym}
use Rattle.mh_ledger.specs.Ledgers.{AreHeld, TotalsState, opened_totals}
use Rattle.mh_ledger.proofs.Held.{opened_held}
use Rattle.mh_ledger.proofs.totals.Totals.open.Goals as goal

pub returns-clause-held : goal.returns-clause-held
returns-clause-held c =
    subst (λ (t : TotalsState). AreHeld t c.in_ok-ledgers.ledgers.items) (sym c.in_ok-totals.ensures.value)
    (subst (AreHeld (opened_totals c.args.links c.args.workers c.args.total_limit)) (sym c.in_ok-ledgers.ensures.value) (opened_held c.args.links c.args.workers c.args.ledger_limit c.args.total_limit))
