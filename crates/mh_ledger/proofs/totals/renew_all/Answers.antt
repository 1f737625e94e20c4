use Rattle.std.proofs.Common.{sym, ◌∙◌, arith}
use Rattle.std.proofs.lemmas.List.{ext_get_or, get_or-map, length-map}
use Rattle.mh_ledger.specs.Ledgers.{no_ledger}
use Rattle.mh_ledger.specs.Renewals.{renewed_ledger}
use Rattle.mh_ledger.proofs.totals.renew_all.Goals as goal

pub returns : goal.returns
returns c =
    let was = c.args.ledgers.now.items in
    let after = renewed_ledger c.args.hits in
    let same = c.loop-worker.invariant.same in
    record {
      value = ext_get_or no_ledger _ _ (same ∙ sym (length-map was after))
          (λ w inside. c.loop-worker.invariant.before w (omega (arith, inside, same)) ∙ sym (get_or-map after was w no_ledger no_ledger (omega (arith, inside, same))));
    }
