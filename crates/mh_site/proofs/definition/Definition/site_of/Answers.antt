use Rattle.std.proofs.Common.{◌≤◌, ◌<◌, ◌+◌, length, slice_index_or, ap, sym, subst, ◌∙◌}
use Rattle.mh_site.specs.Defined.{DefinitionData, no_link, site_at}
use Rattle.mh_site.specs.Kept.{kept_definition}
use Rattle.mh_site.specs.Links.{first_link, links, site_of}
use Rattle.mh_site.specs.Laws.Numbers.{home, home_at}
use Rattle.mh_site.proofs.definition.Definition.site_of.Goals as goal

pub returns-clause-value : goal.returns-clause-value
returns-clause-value c =
    let d = kept_definition c.self.inside in
    let h = subst (λ (x : DefinitionData). c.args.link < length (links x)) (sym c.self.view_is) c.requires.inside in
    let homes = ap (λ p. p.numbering.homes.items) c.deref.ensures ∙ c.self.invariant.numbers.home in
    c.index.ensures ∙ (ap (λ ns. slice_index_or ns c.args.link c.index.result.now) homes
    ∙ (home_at d.sites (length d.sites) c.args.link c.index.result.now (length d.sites, no_link) h ∙ ap (λ (x : DefinitionData). site_of x c.args.link) c.self.view_is))

pub returns-clause-known : goal.returns-clause-known
returns-clause-known c =
    let d = c.args.self.now in
    subst (λ s. s < length d.sites) (sym (returns-clause-value c)) (home d.sites (length d.sites) c.args.link (length d.sites, no_link) c.requires.inside).0

pub returns-clause-within : goal.returns-clause-within
returns-clause-within c =
    let d = c.args.self.now in
    let found = home d.sites (length d.sites) c.args.link (length d.sites, no_link) c.requires.inside in
    subst (λ s. (first_link d s ≤ c.args.link) × (c.args.link < first_link d s + length (site_at d s).links)) (sym (returns-clause-value c)) (found.1, found.2)
