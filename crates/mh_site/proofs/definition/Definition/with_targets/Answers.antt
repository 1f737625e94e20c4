use Rattle.std.proofs.Common.{List, length, map, slice_index_or, ap, sym, subst, ◌∙◌, ◌≡◌}
use Rattle.std.specs.List.{range_with_len}
use Rattle.mh_site.specs.declared.point.Point.{Point}
use Rattle.mh_site.specs.declared.site.Site.{Site}
use Rattle.mh_site.specs.Defined.{DefinitionData, no_site}
use Rattle.mh_site.specs.Lawful.{IsDefinition}
use Rattle.mh_site.specs.Links.{links}
use Rattle.mh_site.specs.Targets.{target_at, with_target, with_targets}
use Rattle.mh_site.specs.Laws.Targets.{links_kept, with_targets_lawful}
use Rattle.mh_site.proofs.definition.Definition.with_targets.Goals as goal

abbrev of_parts : List Point → List Site → DefinitionData
of_parts points sites = record { points = points; sites = sites }

pub of-requires : goal.of-requires
of-requires c =
    let d = c.args.self.now in
    let ts = c.args.targets.now in
    let points : c.in_ok-points.points ≡ d.points = c.in_ok-points.ensures.value ∙ c.points.ensures.value in
    let sites : c.in_ok-sites.sites ≡ (with_targets d ts).sites =
    c.in_ok-sites.ensures.value ∙ ap (λ (ss : List Site). map (λ s. with_target (slice_index_or ss s no_site) (target_at ts s)) (range_with_len 0 (length ss))) c.sites.ensures.value in
    record {
      lawful = subst (λ (ps : List Point). IsDefinition (of_parts ps c.in_ok-sites.sites)) (sym points)
          (subst (λ (ss : List Site). IsDefinition (of_parts d.points ss)) (sym sites) (with_targets_lawful d ts c.points.ensures.lawful c.requires.targets));
    }

pub returns-clause-links : goal.returns-clause-links
returns-clause-links c =
    let d = c.args.self.now in
    let ts = c.args.targets.now in
    let points : c.in_ok-points.points ≡ d.points = c.in_ok-points.ensures.value ∙ c.points.ensures.value in
    let sites : c.in_ok-sites.sites ≡ (with_targets d ts).sites =
    c.in_ok-sites.ensures.value ∙ ap (λ (ss : List Site). map (λ s. with_target (slice_index_or ss s no_site) (target_at ts s)) (range_with_len 0 (length ss))) c.sites.ensures.value in
    ap links (c.in_ok-definition.ensures.value ∙ (ap (λ (ps : List Point). of_parts ps c.in_ok-sites.sites) points ∙ ap (of_parts d.points) sites)) ∙ links_kept d ts
