-- The definition that points and sites make, or the fault that is reported: the rules (`Rules`) as tests that are decided.
use Rattle.std.specs.Prelude.{ℕ, ◌==◌, Bool, true, false, not, ◌&&◌, List, [], ◌∷◌, ◌++◌, length, map, take, slice_index_or, nat_le, nat_lt, Option, Some, None, Result}
use Rattle.std.specs.List.{list_any, list_all, flat_map, range_with_len}
use Rattle.std.specs.Str.{bytes_eq}
use Rattle.mh_type.specs.Kinds.{kind_of, kind_eq}
use Rattle.mh_type.specs.Signature.{signature_eq}
use Rattle.mh_tree.specs.Limits.{greatest_level, point_bound}
use Rattle.mh_tree.specs.Typing.{kind_at}
use Rattle.mh_site.specs.declared.point.Point.{Point}
use Rattle.mh_site.specs.declared.link.Link.{Link}
use Rattle.mh_site.specs.declared.site.Site.{Site}
use Rattle.mh_site.specs.declared.version.Version.{Version}
use Rattle.mh_site.specs.declared.fault.DefinitionFault.{DefinitionFault}
use Rattle.mh_site.specs.declared.fault.DefinitionFault.TheVariants.{NoMemory, TooManyPoints, TooManySites, TooManyLinks, TooManyNeeds, BadName, NameTwice, CostTooLarge, WeightTooLarge, BadKeyPlace, KeyMismatch, KeyTwice, NoPoint, NeedTwice, TypeMismatch, BadLevel, NoSite, InvokeMismatch, WrongLevel, ChargeTooLarge}
use Rattle.mh_base.specs.Listed.{Decided, first_failing, made_unless}
use Rattle.mh_site.specs.Defined.{DefinitionData, no_point, no_site}
use Rattle.mh_site.specs.Ascending.{ascending}
use Rattle.mh_site.specs.Invoking.{invokes_known, invokes_lower, invokes_of_type}
use Rattle.mh_site.specs.Names.{is_name}
use Rattle.mh_type.specs.Values.{same_value}
use Rattle.mh_base.specs.Limits.{most_needs}
use Rattle.mh_site.specs.Limits.{most_points, most_sites, most_links, greatest_charge, greatest_cost, greatest_weight}

abbrev pub fault_number : DefinitionFault → ℕ
fault_number NoMemory = 1
fault_number TooManyPoints = 2
fault_number TooManySites = 3
fault_number TooManyLinks = 4
fault_number TooManyNeeds = 5
fault_number BadName = 6
fault_number NameTwice = 7
fault_number CostTooLarge = 8
fault_number WeightTooLarge = 9
fault_number BadKeyPlace = 10
fault_number KeyMismatch = 11
fault_number KeyTwice = 12
fault_number NoPoint = 13
fault_number NeedTwice = 14
fault_number TypeMismatch = 15
fault_number BadLevel = 16
fault_number NoSite = 17
fault_number InvokeMismatch = 18
fault_number WrongLevel = 19
fault_number ChargeTooLarge = 20

-- no two are the same
abbrev pub all_differ : {X : Type 0} → (X → X → Bool) → List X → Bool
all_differ same [] = true
all_differ same (x ∷ xs) = not (list_any (same x) xs) && all_differ same xs

abbrev pub names_point : List ℕ → Point → Bool
names_point name p = bytes_eq name p.name

abbrev pub names_site : List ℕ → Site → Bool
names_site name s = bytes_eq name s.name

-- the tests of a point after earlier ones
abbrev pub point_tests : List Point → Point → Decided DefinitionFault
point_tests earlier p =
    (is_name p.name, BadName)
    ∷ (not (list_any (names_point p.name) earlier), NameTwice)
    ∷ (nat_le p.cost greatest_cost, CostTooLarge)
    ∷ []

-- the tests of the point with this number, after those before it
abbrev pub tests_at_point : List Point → ℕ → Decided DefinitionFault
tests_at_point points i = point_tests (take i points) (slice_index_or points i no_point)

-- at most eight needs
abbrev pub needs_few : Link → Bool
needs_few l = nat_le (length l.needs) most_needs

abbrev pub weighs_little : Link → Bool
weighs_little l = nat_le l.weight greatest_weight

abbrev pub costs_little : Link → Bool
costs_little l = nat_le l.charge greatest_charge

-- whether there are no links
abbrev pub has_no : List Link → Bool
has_no [] = true
has_no (l ∷ ls) = false

-- the key position is that of a parameter; a site with links has one
abbrev pub has_place : Site → Bool
has_place s = elim s.key as (λ _. Bool) [ None ↦ has_no s.links | Some q ↦ nat_lt q (length s.method_type.parameters) ]

-- a key of the kind of the parameter at the key position
abbrev pub fits_place : Site → Link → Bool
fits_place s l = elim s.key as (λ _. Bool) [ None ↦ false | Some q ↦ nat_lt q (length s.method_type.parameters) && kind_eq (kind_of l.when) (kind_at s.method_type.parameters q) ]

abbrev pub same_key : Link → Link → Bool
same_key l k = same_value l.when k.when

-- needs that are numbers of points, given the number of points
abbrev pub needs_known : ℕ → Link → Bool
needs_known points l = list_all (λ p. nat_lt p points) l.needs

abbrev pub needs_differ : Link → Bool
needs_differ l = all_differ (λ p q. p == q) l.needs

-- the tests of one of these sites after earlier ones, given the number of points
abbrev pub site_tests : ℕ → List Site → List Site → Site → Decided DefinitionFault
site_tests points sites earlier s =
    (nat_le (length s.links) most_links, TooManyLinks)
    ∷ (list_all needs_few s.links, TooManyNeeds)
    ∷ (is_name s.name, BadName)
    ∷ (not (list_any (names_site s.name) earlier), NameTwice)
    ∷ (list_all weighs_little s.links, WeightTooLarge)
    ∷ (has_place s, BadKeyPlace)
    ∷ (list_all (fits_place s) s.links, KeyMismatch)
    ∷ (all_differ same_key s.links, KeyTwice)
    ∷ (list_all (needs_known points) s.links && nat_le (point_bound s.target.tree) points, NoPoint)
    ∷ (list_all needs_differ s.links, NeedTwice)
    ∷ (signature_eq s.target.signature s.method_type, TypeMismatch)
    ∷ (nat_le s.level greatest_level, BadLevel)
    ∷ (invokes_known sites s.target.tree, NoSite)
    ∷ (invokes_of_type sites s.target.tree, InvokeMismatch)
    ∷ (invokes_lower sites s.level s.target.tree, WrongLevel)
    ∷ (list_all costs_little s.links, ChargeTooLarge)
    ∷ []

-- the tests of the site with this number, after those before it
abbrev pub tests_at_site : ℕ → List Site → ℕ → Decided DefinitionFault
tests_at_site points sites i = site_tests points sites (take i sites) (slice_index_or sites i no_site)

-- the tests of all points, and of all sites, by number
abbrev pub tests_of_points : List Point → Decided DefinitionFault
tests_of_points points = flat_map (tests_at_point points) (range_with_len 0 (length points))

abbrev pub tests_of_sites : ℕ → List Site → Decided DefinitionFault
tests_of_sites points sites = flat_map (tests_at_site points sites) (range_with_len 0 (length sites))

-- the two numbers, the points in order, the sites in order
abbrev pub definition_tests : Version → List Point → List Site → Decided DefinitionFault
definition_tests version points sites =
    (nat_le (length points) (most_points version), TooManyPoints)
    ∷ (nat_le (length sites) (most_sites version), TooManySites)
    ∷ tests_of_points points ++ tests_of_sites (length points) sites

abbrev pub definition_fault : Version → List Point → List Site → Option DefinitionFault
definition_fault version points sites = first_failing (definition_tests version points sites)

-- a link and a site with their needs in ascending order, and otherwise unchanged
abbrev pub link_in_order : Link → Link
link_in_order l = record { when = l.when; weight = l.weight; charge = l.charge; needs = ascending l.needs }

abbrev pub site_in_order : Site → Site
site_in_order s = record { name = s.name; method_type = s.method_type; level = s.level; key = s.key; target = s.target; links = map link_in_order s.links }

-- the definition that the parts make
abbrev pub definition_made : Version → List Point → List Site → Result DefinitionData DefinitionFault
definition_made version points sites = made_unless (record { points = points; sites = map site_in_order sites }) (definition_fault version points sites)
