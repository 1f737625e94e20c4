-- Facts about each link of a definition, by its number.
use Rattle.std.proofs.Common.{◌≡◌, ℕ, zero, suc, ◌+◌, ◌-◌, ◌*◌, ◌<◌, ◌≤◌, length, slice_index_or, sym, subst, ap, ◌∙◌, arith}
use Rattle.std.proofs.lemmas.List.{length-append, length-map}
use Rattle.mh_site.specs.declared.link.Link.{Link}
use Rattle.mh_site.specs.Defined.{DefinitionData, site_at, no_link, no_site}
use Rattle.mh_site.specs.Lawful.{IsDefinition, IsLink}
use Rattle.mh_site.specs.Links.{links, links_at, links_before, link_at, site_of}
use Rattle.mh_site.specs.Laws.{home, numbered, links_in}

pub lawful_link : (d : DefinitionData) (j : ℕ) → IsDefinition d → j < length (links d) → IsLink (length d.points) (site_at d (site_of d j)) (link_at d j).1
lawful_link d j is h =
    let none : ℕ × Link = (length d.sites, no_link) in
    let owned = home d.sites (length d.sites) j none h in
    let s = site_of d j in
    let k = j - length (links_before d.sites s) in
    let inside : k < length (links_in d.sites s) = omega (arith, owned.1, owned.2) in
    let place : length (links_before d.sites s) + k ≡ j = omega (arith, owned.1) in
    let found = numbered d.sites (length d.sites) s k none owned.0 inside in
    let lawful : IsLink (length d.points) (site_at d s) (slice_index_or (links_in d.sites s) k no_link) = (is.sites s no_site owned.0).links k no_link inside in
    let same : (link_at d j).1 ≡ slice_index_or (links_in d.sites s) k no_link =
    ap (λ (i : ℕ). (slice_index_or (links_before d.sites (length d.sites)) i none).1) (sym place) ∙ ap (λ (e : ℕ × Link). e.1) found in
    subst (IsLink (length d.points) (site_at d s)) (sym same) lawful

few_before : (d : DefinitionData) (n : ℕ) → IsDefinition d → n ≤ length d.sites → length (links_before d.sites n) ≤ 4 * n
few_before d zero is h = omega arith
few_before d (suc n) is h =
    let before = few_before d n is (omega arith) in
    let few = (is.sites n no_site (omega arith)).few in
    let named : Link → ℕ × Link = λ l. (n, l) in
    let more : length (links_before d.sites (suc n)) ≡ length (links_before d.sites n) + length (links_at d.sites n) = length-append (links_before d.sites n) (links_at d.sites n) in
    let here : length (links_at d.sites n) ≡ length (links_in d.sites n) = length-map (links_in d.sites n) named in
    omega (arith, before, few, more, here)

pub few_links : (d : DefinitionData) → IsDefinition d → length (links d) ≤ 16384
few_links d is = omega (arith, few_before d (length d.sites) is (omega arith), is.few_sites)
