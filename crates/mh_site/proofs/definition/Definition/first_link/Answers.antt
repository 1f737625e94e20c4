use Rattle.std.proofs.Common.{◌≡◌, ◌+◌, ◌<◌, ℕ, length, ap, sym, subst, ◌∙◌, arith, slice_index_or}
use Rattle.std.proofs.lemmas.List.FromFn.{length-map-range_with_len}
use Rattle.mh_site.specs.Defined.{DefinitionData, no_link}
use Rattle.mh_site.specs.Kept.{kept_definition}
use Rattle.mh_site.specs.Links.{first_link, link_at, links_before}
use Rattle.mh_site.specs.Laws.Numbers.{before_within, first_at, numbered}
use Rattle.mh_site.proofs.definition.Definition.first_link.Goals as goal

inside : (d e : DefinitionData) (s : ℕ) → d ≡ e → s < length e.sites → s < length d.sites
inside d e s same h = subst (λ (x : DefinitionData). s < length x.sites) (sym same) h

pub index-requires : goal.index-requires
index-requires c =
    let sites = (kept_definition c.self.inside).sites in
    let h = inside _ c.args.self.now c.args.site c.self.view_is c.requires.inside in
    let count = length-map-range_with_len (λ i. length (links_before sites i)) 0 (length sites) in
    omega (arith, h, ap length (ap (λ p. p.numbering.firsts.items) c.deref.ensures ∙ c.self.invariant.numbers.first), count, c.deref.result.now.numbering.firsts.ok)

pub returns-clause-value : goal.returns-clause-value
returns-clause-value c =
    let sites = (kept_definition c.self.inside).sites in
    let h = inside _ c.args.self.now c.args.site c.self.view_is c.requires.inside in
    c.index.ensures ∙ (ap (λ xs. slice_index_or xs c.args.site c.index.result.now) (ap (λ p. p.numbering.firsts.items) c.deref.ensures ∙ c.self.invariant.numbers.first)
    ∙ (first_at sites c.args.site c.index.result.now h ∙ ap (λ (d : DefinitionData). first_link d c.args.site) c.self.view_is))

pub returns-clause-links : goal.returns-clause-links
returns-clause-links c k h =
    let d = c.args.self.now in
    ap (λ j. link_at d (j + k)) (returns-clause-value c) ∙ numbered d.sites (length d.sites) c.args.site k (length d.sites, no_link) c.requires.inside h

pub returns-clause-within : goal.returns-clause-within
returns-clause-within c = omega (arith, returns-clause-value c, before_within c.args.self.now.sites (length c.args.self.now.sites) c.args.site c.requires.inside)
