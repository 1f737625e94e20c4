-- Places of faults of points and sites: the tests and the rules of a definition, each with its fault and the place of it.
use Rattle.std.specs.Prelude.{◌≡◌, ◌≢◌, ◌≤◌, ◌<◌, ℕ, ◌&&◌, true, not, List, [], ◌∷◌, ◌++◌, length, map, take, slice_index_or, nat_le, Option, Some, None, Bool, Result}
use Rattle.std.specs.List.{All, AllPairs, flat_map, list_any, position, range_with_len}
use Rattle.std.specs.Option.{is_none, unwrap_or}
use Rattle.mh_base.specs.Listed.{Decided, first_failing, made_unless, tests_of_each}
use Rattle.mh_base.specs.Tests.{Tests, test, no_more, only}
use Rattle.mh_type.specs.Signature.{signature_eq}
use Rattle.mh_tree.specs.Limits.{greatest_level, point_bound, site_bound}
use Rattle.mh_site.specs.declared.point.Point.{Point}
use Rattle.mh_site.specs.declared.link.Link.{Link as LinkData}
use Rattle.mh_site.specs.declared.site.Site.{Site as SiteData}
use Rattle.mh_site.specs.declared.version.Version.{Version}
use Rattle.mh_site.specs.declared.fault.DefinitionFault.{DefinitionFault}
use Rattle.mh_site.specs.declared.fault.DefinitionFault.TheVariants.{NoMemory, TooManyPoints, TooManySites, TooManyLinks, TooManyNeeds, BadName, NameTwice, CostTooLarge, WeightTooLarge, BadKeyPlace, KeyMismatch, KeyTwice, NoPoint, NeedTwice, TypeMismatch, BadLevel, NoSite, InvokeMismatch, WrongLevel, ChargeTooLarge}
use Rattle.mh_site.specs.declared.place.DefinitionMisfit.{DefinitionMisfit}
use Rattle.mh_site.specs.declared.place.DefinitionPlace.{DefinitionPlace}
use Rattle.mh_site.specs.declared.place.DefinitionPlace.TheVariants as place
use Rattle.mh_site.specs.declared.place.PointPart.{PointPart}
use Rattle.mh_site.specs.declared.place.PointPart.TheVariants as of_point
use Rattle.mh_site.specs.declared.place.SitePart.{SitePart}
use Rattle.mh_site.specs.declared.place.SitePart.TheVariants as of_site
use Rattle.mh_site.specs.declared.place.LinkPart.{LinkPart}
use Rattle.mh_site.specs.declared.place.LinkPart.TheVariants as of_link
use Rattle.mh_site.specs.Defined.{DefinitionData, no_link, no_point, no_site}
use Rattle.mh_site.specs.Definitions.{names_point, names_site, needs_few, weighs_little, costs_little, has_place, fits_place, same_key, needs_known, needs_differ, site_in_order}
use Rattle.mh_site.specs.Invoking.{InvokesLower, InvokesOfType, invokes_known, invokes_lower, invokes_of_type}
use Rattle.mh_site.specs.Lawful.{HasKey}
use Rattle.mh_base.specs.Limits.{most_needs}
use Rattle.mh_site.specs.Limits.{most_points, most_sites, most_links, greatest_charge, greatest_cost, greatest_weight}
use Rattle.mh_site.specs.Names.{is_name}
use Rattle.mh_site.specs.Rules.{HasPlace}

abbrev pub misfit : DefinitionFault → DefinitionPlace → DefinitionMisfit
misfit fault at = record { fault = fault; place = at }

-- lack of memory, which is attributed to the whole
abbrev pub out_of_memory : DefinitionMisfit
out_of_memory = misfit NoMemory place.Whole

-- a fault of a part of the point, of the site, and of the link of a site, with these numbers
abbrev pub at_point : ℕ → PointPart → DefinitionFault → DefinitionMisfit
at_point i part fault = misfit fault (place.Point i part)

abbrev pub at_site : ℕ → SitePart → DefinitionFault → DefinitionMisfit
at_site i part fault = misfit fault (place.Site i part)

abbrev pub at_link : ℕ → LinkPart → DefinitionFault → ℕ → DefinitionMisfit
at_link i part fault j = misfit fault (place.Link i j part)

-- the number of the first that fails a test, if any does
abbrev pub unfit : {X : Type 0} → (X → Bool) → List X → Option ℕ
unfit passes xs = position (λ x. not (passes x)) xs

-- whether no earlier link has the key of the link with this number
abbrev pub key_new : List LinkData → ℕ → Bool
key_new links j = not (list_any (same_key (slice_index_or links j no_link)) (take j links))

-- the number of the first link whose key an earlier one has
unfoldable pub key_twice : List LinkData → Option ℕ
key_twice links = unfit (key_new links) (range_with_len 0 (length links))

-- holds if no link was found that fails, and otherwise reports that link
abbrev pub none_found : Option ℕ → (ℕ → DefinitionMisfit) → Bool × DefinitionMisfit
none_found found told = (is_none found, told (unwrap_or found 0))

-- the part to which a wrong key position is attributed: the whole site, if it has no key position
abbrev pub key_part : Option ℕ → SitePart
key_part None = of_site.Whole
key_part (Some place) = of_site.Key

-- the tests of the point with this number after earlier ones
abbrev pub placed_point_tests : ℕ → List Point → Point → Decided DefinitionMisfit
placed_point_tests i earlier p =
    (is_name p.name, at_point i of_point.Name BadName)
    ∷ (not (list_any (names_point p.name) earlier), at_point i of_point.Whole NameTwice)
    ∷ (nat_le p.cost greatest_cost, at_point i of_point.Cost CostTooLarge)
    ∷ []

abbrev pub placed_at_point : List Point → ℕ → Decided DefinitionMisfit
placed_at_point points i = placed_point_tests i (take i points) (slice_index_or points i no_point)

-- the tests of a site with this number after earlier ones: of its name, and of the sizes of its parts
abbrev pub placed_shape_tests : ℕ → List SiteData → SiteData → Decided DefinitionMisfit
placed_shape_tests i earlier s =
    (nat_le (length s.links) most_links, at_site i of_site.Links TooManyLinks)
    ∷ none_found (unfit needs_few s.links) (at_link i of_link.Needs TooManyNeeds)
    ∷ (is_name s.name, at_site i of_site.Name BadName)
    ∷ (not (list_any (names_site s.name) earlier), at_site i of_site.Whole NameTwice)
    ∷ none_found (unfit weighs_little s.links) (at_link i of_link.Weight WeightTooLarge)
    ∷ []

-- the tests of its keys
abbrev pub placed_key_tests : ℕ → SiteData → Decided DefinitionMisfit
placed_key_tests i s =
    (has_place s, at_site i (key_part s.key) BadKeyPlace)
    ∷ none_found (unfit (fits_place s) s.links) (at_link i of_link.When KeyMismatch)
    ∷ none_found (key_twice s.links) (at_link i of_link.Whole KeyTwice)
    ∷ []

-- the tests of the points that it names, given the number of points, and of the type of its target
abbrev pub placed_point_name_tests : ℕ → ℕ → SiteData → Decided DefinitionMisfit
placed_point_name_tests points i s =
    none_found (unfit (needs_known points) s.links) (at_link i of_link.Needs NoPoint)
    ∷ (nat_le (point_bound s.target.tree) points, at_site i of_site.Target NoPoint)
    ∷ none_found (unfit needs_differ s.links) (at_link i of_link.Needs NeedTwice)
    ∷ (signature_eq s.target.signature s.method_type, at_site i of_site.Target TypeMismatch)
    ∷ []

-- the tests of the sites that it invokes, among these, and of its charges
abbrev pub placed_invoke_tests : List SiteData → ℕ → SiteData → Decided DefinitionMisfit
placed_invoke_tests sites i s =
    (nat_le s.level greatest_level, at_site i of_site.Level BadLevel)
    ∷ (invokes_known sites s.target.tree, at_site i of_site.Target NoSite)
    ∷ (invokes_of_type sites s.target.tree, at_site i of_site.Target InvokeMismatch)
    ∷ (invokes_lower sites s.level s.target.tree, at_site i of_site.Target WrongLevel)
    ∷ none_found (unfit costs_little s.links) (at_link i of_link.Charge ChargeTooLarge)
    ∷ []

-- all tests of one of these sites, with this number, after earlier ones, given the number of points
abbrev pub placed_site_tests : ℕ → List SiteData → ℕ → List SiteData → SiteData → Decided DefinitionMisfit
placed_site_tests points sites i earlier s =
    placed_shape_tests i earlier s ++ placed_key_tests i s ++ placed_point_name_tests points i s ++ placed_invoke_tests sites i s

abbrev pub placed_at_site : ℕ → List SiteData → ℕ → Decided DefinitionMisfit
placed_at_site points sites i = placed_site_tests points sites i (take i sites) (slice_index_or sites i no_site)

-- the tests of all points, and of all sites, by number
abbrev pub placed_points : List Point → Decided DefinitionMisfit
placed_points points = flat_map (placed_at_point points) (range_with_len 0 (length points))

abbrev pub placed_sites : ℕ → List SiteData → Decided DefinitionMisfit
placed_sites points sites = flat_map (placed_at_site points sites) (range_with_len 0 (length sites))

-- the tests of `definition_tests` with their places
abbrev pub placed_tests : Version → List Point → List SiteData → Decided DefinitionMisfit
placed_tests version points sites =
    (nat_le (length points) (most_points version), misfit TooManyPoints place.Points)
    ∷ (nat_le (length sites) (most_sites version), misfit TooManySites place.Sites)
    ∷ placed_points points ++ placed_sites (length points) sites

-- the first test that fails
abbrev pub placed_fault : Version → List Point → List SiteData → Option DefinitionMisfit
placed_fault version points sites = first_failing (placed_tests version points sites)

-- the definition that the parts make
abbrev pub placed_made : Version → List Point → List SiteData → Result DefinitionData DefinitionMisfit
placed_made version points sites = made_unless (record { points = points; sites = map site_in_order sites }) (placed_fault version points sites)

-- the links in turn, each compared with the earlier ones: if the fact fails for one, that link is reported
abbrev pub rules_of_links : (List LinkData → LinkData → Type 0) → (ℕ → DefinitionMisfit) → List LinkData → Tests DefinitionMisfit → Tests DefinitionMisfit
rules_of_links Fact told links later =
    tests_of_each (λ j. test (Fact (take j links) (slice_index_or links j no_link)) (only (told j))) (range_with_len 0 (length links)) later

-- the rules of the point with this number after earlier ones
abbrev pub placed_point_rules : ℕ → List Point → Point → Tests DefinitionMisfit → Tests DefinitionMisfit
placed_point_rules i earlier p later =
    test (is_name p.name ≡ true) (only (at_point i of_point.Name BadName))
    (test (All (λ q. p.name ≢ q.name) earlier) (only (at_point i of_point.Whole NameTwice))
    (test (p.cost ≤ greatest_cost) (only (at_point i of_point.Cost CostTooLarge)) later))

-- the rules of one of these sites, with this number, after earlier ones, given the number of points
abbrev pub placed_site_rules : ℕ → List SiteData → ℕ → List SiteData → SiteData → Tests DefinitionMisfit → Tests DefinitionMisfit
placed_site_rules points sites i earlier s later =
    test (length s.links ≤ most_links) (only (at_site i of_site.Links TooManyLinks))
    (rules_of_links (λ _ l. length l.needs ≤ most_needs) (at_link i of_link.Needs TooManyNeeds) s.links
    (test (is_name s.name ≡ true) (only (at_site i of_site.Name BadName))
    (test (All (λ e. s.name ≢ e.name) earlier) (only (at_site i of_site.Whole NameTwice))
    (rules_of_links (λ _ l. l.weight ≤ greatest_weight) (at_link i of_link.Weight WeightTooLarge) s.links
    (test (HasPlace s) (only (at_site i (key_part s.key) BadKeyPlace))
    (rules_of_links (λ _ l. HasKey s l) (at_link i of_link.When KeyMismatch) s.links
    (rules_of_links (λ before l. All (λ k. l.when ≢ k.when) before) (at_link i of_link.Whole KeyTwice) s.links
    (rules_of_links (λ _ l. All (λ p. p < points) l.needs) (at_link i of_link.Needs NoPoint) s.links
    (test (point_bound s.target.tree ≤ points) (only (at_site i of_site.Target NoPoint))
    (rules_of_links (λ _ l. AllPairs (λ p q. p ≢ q) l.needs) (at_link i of_link.Needs NeedTwice) s.links
    (test (s.target.signature ≡ s.method_type) (only (at_site i of_site.Target TypeMismatch))
    (test (s.level ≤ greatest_level) (only (at_site i of_site.Level BadLevel))
    (test (site_bound s.target.tree ≤ length sites) (only (at_site i of_site.Target NoSite))
    (test (InvokesOfType sites s.target.tree) (only (at_site i of_site.Target InvokeMismatch))
    (test (InvokesLower sites s.level s.target.tree) (only (at_site i of_site.Target WrongLevel))
    (rules_of_links (λ _ l. l.charge ≤ greatest_charge) (at_link i of_link.Charge ChargeTooLarge) s.links later))))))))))))))))

-- the rules of the point, and of the site, with this number
abbrev pub placed_rules_at_point : List Point → ℕ → Tests DefinitionMisfit → Tests DefinitionMisfit
placed_rules_at_point points i = placed_point_rules i (take i points) (slice_index_or points i no_point)

abbrev pub placed_rules_at_site : ℕ → List SiteData → ℕ → Tests DefinitionMisfit → Tests DefinitionMisfit
placed_rules_at_site points sites i = placed_site_rules points sites i (take i sites) (slice_index_or sites i no_site)

-- the rules of `definition_rules` with their places: a rule of the links of a site is repeated here for each link in turn
abbrev pub placed_rules : Version → List Point → List SiteData → Tests DefinitionMisfit
placed_rules version points sites =
    test (length points ≤ most_points version) (only (misfit TooManyPoints place.Points))
    (test (length sites ≤ most_sites version) (only (misfit TooManySites place.Sites))
    (tests_of_each (placed_rules_at_point points) (range_with_len 0 (length points))
    (tests_of_each (placed_rules_at_site (length points) sites) (range_with_len 0 (length sites)) (no_more (only out_of_memory)))))
