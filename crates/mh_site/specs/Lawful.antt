-- The facts that hold of each definition.
use Rattle.std.specs.Prelude.{◌≡◌, ◌≢◌, ◌≤◌, ◌<◌, ℕ, true, List, length, map, Some}
use Rattle.std.specs.List.{All, AllPairs}
use Rattle.std.specs.List.Sorted.{IsStrictlyIncreasing}
use Rattle.mh_type.specs.Kinds.{kind_of}
use Rattle.mh_tree.specs.Limits.{greatest_level, point_bound}
use Rattle.mh_tree.specs.Tree.{Tree}
use Rattle.mh_tree.specs.Typing.{kind_at}
use Rattle.mh_site.specs.declared.point.Point.{Point}
use Rattle.mh_site.specs.declared.link.Link.{Link}
use Rattle.mh_site.specs.declared.site.Site.{Site}
use Rattle.mh_site.specs.declared.version.Version.TheVariants.{Two}
use Rattle.mh_site.specs.Defined.{DefinitionData}
use Rattle.mh_site.specs.Definitions.{all_differ, same_key}
use Rattle.mh_site.specs.Invoking.{InvokesLower, InvokesOfType}
use Rattle.mh_site.specs.Names.{is_name}
use Rattle.mh_base.specs.Limits.{most_needs}
use Rattle.mh_site.specs.Limits.{most_points, most_sites, most_links, greatest_charge, greatest_cost, greatest_weight}

-- the key position is that of a parameter, and the key is of its kind
pub record HasKey (s : Site) (l : Link) : Type 0 where
  pub place : ℕ
  pub is : s.key ≡ Some place
  pub inside : place < length s.method_type.parameters
  pub kind : kind_of l.when ≡ kind_at s.method_type.parameters place

-- a link of a site that is lawful, given the number of points
pub record IsLink (points : ℕ) (s : Site) (l : Link) : Type 0 where
  pub few : length l.needs ≤ most_needs
  pub light : l.weight ≤ greatest_weight
  pub cheap : l.charge ≤ greatest_charge
  pub known : All (λ p. p < points) l.needs
  pub ascending : IsStrictlyIncreasing l.needs
  pub key : HasKey s l

-- a site that is lawful, given the number of points
pub record IsSite (points : ℕ) (s : Site) : Type 0 where
  pub name : is_name s.name ≡ true
  pub few : length s.links ≤ most_links
  pub place : (q : ℕ) → s.key ≡ Some q → q < length s.method_type.parameters
  pub links : All (IsLink points s) s.links
  pub keys : all_differ same_key s.links ≡ true
  pub known : point_bound s.target.tree ≤ points
  pub typed : s.target.signature ≡ s.method_type
  pub low : s.level ≤ greatest_level

pub record IsPoint (p : Point) : Type 0 where
  pub name : is_name p.name ≡ true
  pub cheap : p.cost ≤ greatest_cost

-- each invocation is of one of these sites, below this level, and has the site's type
pub record MayInvokeFrom (sites : List Site) (l : ℕ) (t : Tree) : Type 0 where
  pub types : InvokesOfType sites t
  pub levels : InvokesLower sites l t

-- no two names are equal
abbrev pub AreDistinct : List (List ℕ) → Type 0
AreDistinct names = AllPairs (λ n m. n ≢ m) names

pub record IsDefinition (d : DefinitionData) : Type 0 where
  pub few_points : length d.points ≤ most_points Two
  pub few_sites : length d.sites ≤ most_sites Two
  pub point_names : AreDistinct (map (λ p. p.name) d.points)
  pub site_names : AreDistinct (map (λ s. s.name) d.sites)
  pub points : All IsPoint d.points
  pub sites : All (IsSite (length d.points)) d.sites
  pub invokes : All (λ s. MayInvokeFrom d.sites s.level s.target.tree) d.sites
