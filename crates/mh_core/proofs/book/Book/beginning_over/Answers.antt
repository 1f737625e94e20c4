use Rattle.std.proofs.Common.{◌≡◌, ◌∙◌, ◌-◌, ℕ, List, [], ◌∷◌, ap, length, map, refl, subst, sym}
use Rattle.mh_ledger.specs.declared.old_hits.OldHits.TheVariants.{Keep}
use Rattle.mh_ledger.specs.Extensions.{extended_ledger, extended_totals}
use Rattle.mh_ledger.specs.Ledgers.{IsTotals}
use Rattle.mh_ledger.specs.Renewals.{renewed_ledger}
use Rattle.mh_site.specs.Links.{links}
use Rattle.mh_site.specs.Worlds.{opened, replay}
use Rattle.mh_site.specs.declared.control.Control.TheVariants.{Invalidate}
use Rattle.mh_core.specs.declared.record.Record.TheVariants.{Invalidated}
use Rattle.mh_core.specs.Books.{BookState}
use Rattle.mh_core.specs.Extensions.{invalid_points, more_links}
use Rattle.mh_core.specs.Renewals.{carried}
use Rattle.mh_core.proofs.Extended.{extended_world, kept_shares}
use Rattle.mh_core.proofs.book.Book.beginning_over.Goals as goal

pub returns : goal.returns
returns c =
    let now = c.args.self.now in
    let d = c.args.definition in
    let ledgers = c.args.ledgers.now in
    let counted : IsTotals now.totals = subst (λ (b : BookState). IsTotals b.totals) c.self.view_is c.links-links.ensures.totals in
    let points = c.in_ok-invalid.ensures.value in
    let more : c.link_count.result - c.link_count-2.result ≡ more_links now.definition d =
    ap (λ (n : ℕ). n - c.link_count-2.result) c.link_count.ensures.count
    ∙ ap (λ (n : ℕ). length (links d) - n) (c.link_count-2.ensures.count ∙ ap (λ (b : BookState). length (links b.definition)) c.self.view_is) in
    record {
      begins = record {
        definition = refl;
        world = extended_world now.definition d now.records now.totals.shares c.in_ok-world.world
            (c.in_ok-world.ensures.value ∙ ap (λ (ps : List ℕ). replay (opened d) (Invalidate ps ∷ [])) points);
        records = c.in_ok-records.ensures.value
            ∙ (ap (λ (ps : List ℕ). carried (Invalidated ps ∷ []) (map (λ l. (renewed_ledger Keep l).flushed) ledgers) (length ledgers)) points
            ∙ kept_shares now.totals ledgers counted c.requires.held (Invalidated (invalid_points now.definition now.records) ∷ []));
        totals = c.in_ok-totals.ensures.totals
            ∙ (ap (λ (n : ℕ). extended_totals n c.self.inside.totals) more ∙ ap (λ (b : BookState). extended_totals (more_links now.definition d) b.totals) c.self.view_is);
        ledgers = c.in_ok-totals.ensures.ledgers ∙ ap (λ (n : ℕ). map (extended_ledger n) ledgers) more;
        held = c.in_ok-totals.ensures.held;
      };
    }
