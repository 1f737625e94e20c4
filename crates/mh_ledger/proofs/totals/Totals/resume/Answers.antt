use Rattle.std.proofs.Common.{subst, sym}
use Rattle.mh_ledger.specs.Ledgers.{AreHeld, TotalsState}
use Rattle.mh_ledger.specs.Resumptions.{resumed_totals}
use Rattle.mh_ledger.proofs.Resumed.{resumed_held}
use Rattle.mh_ledger.proofs.totals.Totals.resume.Goals as goal

pub returns-clause-held : goal.returns-clause-held
returns-clause-held c =
    subst (λ (t : TotalsState). AreHeld t c.in_ok-ledgers.ledgers.items) (sym c.in_ok-totals.ensures.value)
    (subst (AreHeld (resumed_totals c.args.hits.now c.args.workers c.args.total_limit)) (sym c.in_ok-ledgers.ensures.value)
    (resumed_held c.args.hits.now c.args.workers c.args.ledger_limit c.args.total_limit))
