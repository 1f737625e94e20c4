use Rattle.std.proofs.Common.{◌∙◌, length, ap}
use Rattle.std.proofs.lemmas.List.{length-map}
use Rattle.mh_ledger.specs.Renewals.{renewed_ledger}
use Rattle.mh_core.proofs.Renewed.{runtime_renews}
use Rattle.mh_core.proofs.runtime.Runtime.renew.Goals as goal

pub invariant_of-self-2 : goal.invariant_of-self-2
invariant_of-self-2 c =
    let r = c.self.inside in
    let renewed = c.in_ok-renew.ensures.renewed in (
      runtime_renews c.args.renewal.again.now c.args.renewal.hits r.book c.renew.new.self r.ledgers.items c.renew.new.ledgers.items c.self.invariant.0 renewed.definition renewed.limits c.in_ok-renew.ensures.ledgers c.in_ok-renew.ensures.held,
      ap length c.in_ok-renew.ensures.ledgers ∙ (length-map r.ledgers.items (renewed_ledger c.args.renewal.hits) ∙ c.self.invariant.1),
    )
