use Rattle.std.proofs.Common.{subst, sym}
use Rattle.mh_ledger.specs.Ledgers.{AreHeld, TotalsState}
use Rattle.mh_ledger.specs.Extensions.{extended_totals}
use Rattle.mh_ledger.proofs.Extended.{extended_held}
use Rattle.mh_ledger.proofs.totals.Totals.extended.Goals as goal

pub returns-clause-held : goal.returns-clause-held
returns-clause-held c =
    subst (λ (t : TotalsState). AreHeld t c.in_ok-ledgers.ledgers.items) (sym c.in_ok-totals.ensures.value)
    (subst (AreHeld (extended_totals c.args.more c.args.self.now)) (sym c.in_ok-ledgers.ensures.value) (extended_held c.args.more c.args.self.now c.args.ledgers.now c.requires.held))
