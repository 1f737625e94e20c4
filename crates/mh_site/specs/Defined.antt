-- A definition as plain data, its parts by number, and its code.
use Rattle.std.specs.Prelude.{ℕ, List, [], ◌∷◌, None, refl, false, slice_index_or}
use Rattle.std.specs.Coded.{Coded, code_by, coded×, coded_list}
use Rattle.mh_type.specs.declared.kind.Kind.TheVariants as kind
use Rattle.mh_type.specs.declared.value.Value.TheVariants.{Boolean}
use Rattle.mh_tree.specs.Handle.{TypedTree}
use Rattle.mh_tree.specs.Tree.{identity}
use Rattle.mh_site.specs.declared.point.Point.{Point}
use Rattle.mh_site.specs.declared.link.Link.{Link}
use Rattle.mh_site.specs.declared.site.Site.{Site}
use Rattle.mh_site.specs.contracts.point.Point as point
use Rattle.mh_site.specs.contracts.site.Site as site

-- points and sites by number
pub record DefinitionData : Type 0 where
  pub points : List Point
  pub sites : List Site

-- the values past the last
abbrev pub no_tree : TypedTree
no_tree = record { tree = identity kind.Int; signature = record { ret = kind.Int; parameters = kind.Int ∷ [] } }

abbrev pub no_point : Point
no_point = record { name = []; cost = 0 }

abbrev pub no_link : Link
no_link = record { when = Boolean false; weight = 0; charge = 0; needs = [] }

abbrev pub no_site : Site
no_site = record { name = []; method_type = no_tree.signature; level = 0; key = None; target = no_tree; links = [] }

abbrev pub point_at : DefinitionData → ℕ → Point
point_at d p = slice_index_or d.points p no_point

abbrev pub site_at : DefinitionData → ℕ → Site
site_at d s = slice_index_or d.sites s no_site

-- a link of a site, in the order in which the site's links were given
abbrev pub link_of : DefinitionData → ℕ → ℕ → Link
link_of d s j = slice_index_or (site_at d s).links j no_link

abbrev pub coded_definition : Coded DefinitionData
coded_definition =
    code_by (List Point × List Site) (coded× (coded_list point.the_row.coded) (coded_list site.the_row.coded)) (λ d. (d.points, d.sites)) (λ p. record { points = p.0; sites = p.1 }) (λ _. refl)
