use Rattle.std.proofs.Common.{◌∷◌, ◌++◌, [], ap, sym, ◌∙◌}
use Rattle.mh_ledger.specs.Ledgers.{at}
use Rattle.mh_core.proofs.CountedHits.{counted_none, counted_hit}
use Rattle.mh_core.proofs.hits.hits_of.Goals as goal
use Rattle.mh_core.proofs.hits.hits_of.Goals.{then-count-ne0+in_ok-push, else-count-ne0}

pub loop-link-preserved : goal.loop-link-preserved
loop-link-preserved c =
    let counts = c.args.counts.now in
    record {
      items = elim c.if-count-ne0.branch [
        | then-count-ne0+in_ok-push w ↦
            rw w.hits-is (w.in_ok-push.ensures.items
            ∙ (ap (λ l. l ++ (c.loop-link.link, at counts c.loop-link.link) ∷ []) c.loop-link.invariant.items ∙ sym (counted_hit counts c.loop-link.link w.if-count-ne0.true)))
        | else-count-ne0 w ↦ rw w.hits-is (c.loop-link.invariant.items ∙ sym (counted_none counts c.loop-link.link w.if-count-ne0.false))
      ];
    }
