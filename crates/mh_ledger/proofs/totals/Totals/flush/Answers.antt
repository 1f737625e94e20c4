use Rattle.std.proofs.Common.{ap, ◌∙◌}
use Rattle.mh_ledger.specs.Ledgers.{at, made}
use Rattle.mh_ledger.specs.Laws.Flushes.{made_fits, made_stays, rises}
use Rattle.mh_ledger.proofs.totals.Totals.flush.Goals as goal

pub settle-requires : goal.settle-requires
settle-requires c = record { fits = made_fits c.args.self.now c.args.ledger.now c.take.ensures.totals c.take.ensures.ledger c.requires.held (c.has_room.ensures.decides.0 c.if-not-has_room.false) }

pub returns-clause-rises : goal.returns-clause-rises
returns-clause-rises c j = ap (λ t. at t.total j) c.take.ensures.value ∙ rises c.args.self.now c.args.ledger.now c.take.ensures.totals c.take.ensures.ledger c.requires.held j

pub returns-clause-made : goal.returns-clause-made
returns-clause-made c j = ap (λ l. made l j) c.settle.ensures.value ∙ made_stays c.args.ledger.now c.take.ensures.ledger j
