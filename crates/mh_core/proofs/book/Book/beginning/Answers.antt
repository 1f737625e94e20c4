use Rattle.std.proofs.Common.{ℕ, List, [], ◌∷◌, ◌∙◌, ap, length, map}
use Rattle.mh_ledger.specs.Renewals.{renewed_ledger, renewed_shares}
use Rattle.mh_site.specs.Defined.{DefinitionData}
use Rattle.mh_site.specs.Worlds.{opened, replay}
use Rattle.mh_site.specs.declared.control.Control.TheVariants.{Invalidate}
use Rattle.mh_core.specs.declared.record.Record.TheVariants.{Invalidated}
use Rattle.mh_core.specs.Renewals.{carried, fallen, renewed}
use Rattle.mh_core.proofs.Renewed.{ledger_shares, renewed_world}
use Rattle.mh_core.proofs.book.Book.beginning.Goals as goal

pub returns : goal.returns
returns c =
    let now = c.args.self.now in
    let d = now.definition in
    let r = now.records in
    let h = c.args.hits in
    let again = c.args.again.now in
    let ledgers = c.args.ledgers.now in
    record {
      begins = record {
        definition = c.in_ok-definition.ensures.value;
        world = renewed_world d r again (renewed_shares h now.totals) c.in_ok-world.world
            (c.in_ok-world.ensures.value
            ∙ (ap (λ (x : DefinitionData). replay (opened x) (Invalidate c.in_ok-fallen.fallen ∷ [])) c.in_ok-definition.ensures.value
            ∙ ap (λ (points : List ℕ). replay (opened (renewed d r again)) (Invalidate points ∷ [])) c.in_ok-fallen.ensures.value));
        records = c.in_ok-records.ensures.value
            ∙ (ap (λ (points : List ℕ). carried (Invalidated points ∷ []) (map (λ l. (renewed_ledger h l).flushed) ledgers) (length ledgers)) c.in_ok-fallen.ensures.value
            ∙ ledger_shares h now.totals ledgers c.requires.held (Invalidated (fallen d r again) ∷ []));
        typed = c.in_ok-definition.ensures.typed;
      };
    }
