-- The conditions for points and sites to make a definition: facts in the order in which they are tested.
use Rattle.std.specs.Prelude.{◌≡◌, ◌≢◌, ◌≤◌, ◌<◌, ℕ, true, List, [], length, take, slice_index_or, Some, None}
use Rattle.std.specs.List.{All, AllPairs, range_with_len}
use Rattle.mh_base.specs.Tests.{Tests, test, no_more, only}
use Rattle.mh_base.specs.Listed.{tests_of_each}
use Rattle.mh_tree.specs.Limits.{greatest_level, point_bound, site_bound}
use Rattle.mh_site.specs.declared.point.Point.{Point}
use Rattle.mh_site.specs.declared.site.Site.{Site}
use Rattle.mh_site.specs.declared.version.Version.{Version}
use Rattle.mh_site.specs.declared.version.Version.TheVariants.{One}
use Rattle.mh_site.specs.declared.fault.DefinitionFault.{DefinitionFault}
use Rattle.mh_site.specs.declared.fault.DefinitionFault.TheVariants.{NoMemory, TooManyPoints, TooManySites, TooManyLinks, TooManyNeeds, BadName, NameTwice, CostTooLarge, WeightTooLarge, BadKeyPlace, KeyMismatch, KeyTwice, NoPoint, NeedTwice, TypeMismatch, BadLevel, NoSite, InvokeMismatch, WrongLevel, ChargeTooLarge}
use Rattle.mh_site.specs.Defined.{no_point, no_site}
use Rattle.mh_site.specs.Invoking.{InvokesLower, InvokesOfType}
use Rattle.mh_site.specs.Names.{is_name}
use Rattle.mh_site.specs.Lawful.{HasKey}
use Rattle.mh_base.specs.Limits.{most_needs}
use Rattle.mh_site.specs.Limits.{most_points, most_sites, most_links, greatest_charge, greatest_cost, greatest_weight}

-- the key position is that of a parameter; a site with links has one
pub record HasPlace (s : Site) : Type 0 where
  pub inside : (q : ℕ) → s.key ≡ Some q → q < length s.method_type.parameters
  pub linked : s.key ≡ None → s.links ≡ []

-- the rules of a point after earlier ones
abbrev pub point_rules : List Point → Point → Tests DefinitionFault → Tests DefinitionFault
point_rules earlier p later =
    test (is_name p.name ≡ true) (only BadName)
    (test (All (λ q. p.name ≢ q.name) earlier) (only NameTwice)
    (test (p.cost ≤ greatest_cost) (only CostTooLarge) later))

-- the rules of one of these sites after earlier ones, given the number of points
abbrev pub site_rules : ℕ → List Site → List Site → Site → Tests DefinitionFault → Tests DefinitionFault
site_rules points sites earlier s later =
    test (length s.links ≤ most_links) (only TooManyLinks)
    (test (All (λ l. length l.needs ≤ most_needs) s.links) (only TooManyNeeds)
    (test (is_name s.name ≡ true) (only BadName)
    (test (All (λ e. s.name ≢ e.name) earlier) (only NameTwice)
    (test (All (λ l. l.weight ≤ greatest_weight) s.links) (only WeightTooLarge)
    (test (HasPlace s) (only BadKeyPlace)
    (test (All (HasKey s) s.links) (only KeyMismatch)
    (test (AllPairs (λ l k. l.when ≢ k.when) s.links) (only KeyTwice)
    (test (All (λ l. All (λ p. p < points) l.needs) s.links × (point_bound s.target.tree ≤ points)) (only NoPoint)
    (test (All (λ l. AllPairs (λ p q. p ≢ q) l.needs) s.links) (only NeedTwice)
    (test (s.target.signature ≡ s.method_type) (only TypeMismatch)
    (test (s.level ≤ greatest_level) (only BadLevel)
    (test (site_bound s.target.tree ≤ length sites) (only NoSite)
    (test (InvokesOfType sites s.target.tree) (only InvokeMismatch)
    (test (InvokesLower sites s.level s.target.tree) (only WrongLevel)
    (test (All (λ l. l.charge ≤ greatest_charge) s.links) (only ChargeTooLarge) later)))))))))))))))

-- the rules of the point, and of the site, with this number
abbrev pub rules_at_point : List Point → ℕ → Tests DefinitionFault → Tests DefinitionFault
rules_at_point points i = point_rules (take i points) (slice_index_or points i no_point)

abbrev pub rules_at_site : ℕ → List Site → ℕ → Tests DefinitionFault → Tests DefinitionFault
rules_at_site points sites i = site_rules points sites (take i sites) (slice_index_or sites i no_site)

-- the two numbers, the points in order, the sites in order; if all hold, memory may run out
abbrev pub definition_rules : Version → List Point → List Site → Tests DefinitionFault
definition_rules version points sites =
    test (length points ≤ most_points version) (only TooManyPoints)
    (test (length sites ≤ most_sites version) (only TooManySites)
    (tests_of_each (rules_at_point points) (range_with_len 0 (length points))
    (tests_of_each (rules_at_site (length points) sites) (range_with_len 0 (length sites)) (no_more (only NoMemory)))))

-- in version 1 no link has a charge
abbrev pub HasNoCharges : Version → List Site → Type 0
HasNoCharges version sites = version ≡ One → All (λ s. All (λ l. l.charge ≡ 0) s.links) sites
