use Rattle.std.proofs.Common.{List, ◌++◌, ◌≡◌, ◌∙◌, ap, length, take}
use Rattle.mh_site.specs.declared.point.Point.{Point}
use Rattle.mh_site.specs.Defined.{DefinitionData}
use Rattle.mh_site.specs.Links.{links}
use Rattle.mh_site.specs.Laws.Extensions.{links_stay}
use Rattle.mh_site.proofs.Extended.{made_extended}
use Rattle.mh_site.proofs.definition.Definition.extended.Goals as goal

pub returns-clause-value : goal.returns-clause-value
returns-clause-value c =
    let d = c.args.self.now in
    let all : c.in_ok-points.points ≡ d.points ++ c.args.points =
    c.in_ok-points.ensures.value ∙ ap (λ (ps : List Point). ps ++ c.args.points) (c.in_ok-copy_points.ensures.value ∙ c.points.ensures.value) in
    made_extended d c.in_ok-definition.definition c.args.targets.now c.args.points c.in_ok-points.points c.args.sites c.in_ok-sites.sites
    c.points.ensures.lawful c.requires.targets all c.in_ok-sites.ensures.value c.in_ok-definition.ensures.value

pub returns-clause-links : goal.returns-clause-links
returns-clause-links c =
    let d = c.args.self.now in
    ap (λ (e : DefinitionData). take (length (links d)) (links e)) (returns-clause-value c) ∙ links_stay d c.args.targets.now c.args.points c.args.sites
