-- The links of all sites, numbered from 0: site by site, and at a site in its order.
use Rattle.std.specs.Prelude.{ℕ, zero, suc, ◌≡◌, List, [], ◌++◌, length, map, slice_index_or}
use Rattle.std.specs.List.{range_with_len}
use Rattle.mh_site.specs.declared.link.Link.{Link}
use Rattle.mh_site.specs.declared.site.Site.{Site}
use Rattle.mh_site.specs.Defined.{DefinitionData, no_link, no_site}
use Rattle.mh_site.specs.Lawful.{IsDefinition}

-- the links of a site, each with the site's number
abbrev pub links_at : List Site → ℕ → List (ℕ × Link)
links_at sites s = map (λ l. (s, l)) (slice_index_or sites s no_site).links

-- the links of the first sites
abbrev pub links_before : List Site → ℕ → List (ℕ × Link)
links_before sites zero = []
links_before sites (suc s) = links_before sites s ++ links_at sites s

abbrev pub links : DefinitionData → List (ℕ × Link)
links d = links_before d.sites (length d.sites)

-- a link with its site; past the last link, the number of sites
abbrev pub link_at : DefinitionData → ℕ → ℕ × Link
link_at d j = slice_index_or (links d) j (length d.sites, no_link)

abbrev pub site_of : DefinitionData → ℕ → ℕ
site_of d j = (link_at d j).0

-- the number of a site's first link
abbrev pub first_link : DefinitionData → ℕ → ℕ
first_link d s = length (links_before d.sites s)

-- the numbers of the first links of the first sites
abbrev pub first_links : List Site → ℕ → List ℕ
first_links sites s = map (λ i. length (links_before sites i)) (range_with_len 0 s)

-- the sites of the links of the first sites
abbrev pub homes_before : List Site → ℕ → List ℕ
homes_before sites s = map (λ (l : ℕ × Link). l.0) (links_before sites s)

-- tables of the first link of each site, and of the site of each link
pub record AreNumbers (sites : List Site) (firsts homes : List ℕ) : Type 0 where
  pub first : firsts ≡ first_links sites (length sites)
  pub home : homes ≡ homes_before sites (length sites)

-- the invariant of a definition with these tables
pub record IsNumbered (d : DefinitionData) (firsts homes : List ℕ) : Type 0 where
  pub lawful : IsDefinition d
  pub numbers : AreNumbers d.sites firsts homes
