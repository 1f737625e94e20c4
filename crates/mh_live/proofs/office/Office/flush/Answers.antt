use Rattle.std.proofs.Common.{◌∙◌, refl, sym}
use Rattle.mh_core.specs.Records.{hits_in}
use Rattle.mh_core.specs.declared.record.Record.TheVariants.{Flushed}
use Rattle.mh_live.proofs.Answering.{list_kept}
use Rattle.mh_live.proofs.Shares.{shares_stay}
use Rattle.mh_live.proofs.office.Office.flush.Goals as goal

pub invariant_of-self : goal.invariant_of-self
invariant_of-self g c =
    let is = c.self.invariant in
    let b = c.self.inside.book in
    let l = c.args.ledger.now in
    let told = c.flush.ensures in
    let kept = list_kept c.flush.result b c.flush.new.self (Flushed l.worker (hits_in l.unflushed)) refl told.taken told.refused in
    record {
      stands = is.stands;
      published = is.published ∙ sym kept.0;
      known = is.known ∙ sym kept.0;
      still = is.still;
      halted = is.halted;
      definition = kept.1 ∙ is.definition;
      limits = kept.2 ∙ is.limits;
      shares = shares_stay b.totals c.flush.new.self.totals l.worker c.flush.new.ledger told.all ∙ is.shares;
    }
