-- The tests of a definition with their places report the faults of its tests, and decide its rules.
use Rattle.std.proofs.Common.{◌≡◌, ◌≢◌, ◌≤◌, ◌<◌, ℕ, Bool, true, false, ◌&&◌, cond, List, [], ◌∷◌, ◌++◌, length, map, take, slice_index_or, refl, ap, sym, subst, ◌∙◌, Option, Some, None, Result, Ok, Err, MatchResult, Decides, leb}
use Rattle.std.specs.List.{All, AllPairs, flat_map, list_all, range_with_len}
use Rattle.std.specs.Option.{is_none, option_map, option_or, unwrap_or}
use Rattle.mh_base.specs.Listed.{Decided, first_failing, made_unless}
use Rattle.mh_base.specs.Tests.{Tests, Passes, Refuses, no_more, only}
use Rattle.mh_type.specs.Laws.{signature_eq_decides}
use Rattle.mh_tree.specs.Limits.{greatest_level, point_bound}
use Rattle.mh_site.specs.declared.point.Point.{Point}
use Rattle.mh_site.specs.declared.link.Link.{Link}
use Rattle.mh_site.specs.declared.site.Site.{Site}
use Rattle.mh_site.specs.declared.version.Version.{Version}
use Rattle.mh_site.specs.declared.fault.DefinitionFault.{DefinitionFault}
use Rattle.mh_site.specs.declared.fault.DefinitionFault.TheVariants as fault
use Rattle.mh_site.specs.declared.place.DefinitionMisfit.{DefinitionMisfit}
use Rattle.mh_site.specs.Defined.{DefinitionData, no_link, no_point, no_site}
use Rattle.mh_site.specs.Definitions.{all_differ, same_key, costs_little, definition_fault, definition_made, definition_tests, fits_place, needs_differ, needs_few, needs_known, point_tests, site_in_order, site_tests, tests_at_point, tests_at_site, tests_of_points, tests_of_sites, weighs_little}
use Rattle.mh_site.specs.Lawful.{HasKey}
use Rattle.mh_base.specs.Limits.{most_needs}
use Rattle.mh_site.specs.Limits.{greatest_charge, greatest_cost, greatest_weight, most_links, most_points, most_sites}
use Rattle.mh_site.specs.Names.{is_name}
use Rattle.mh_site.specs.Places.{at_link, key_twice, none_found, out_of_memory, placed_at_point, placed_at_site, placed_fault, placed_made, placed_point_rules, placed_point_tests, placed_points, placed_rules, placed_rules_at_point, placed_rules_at_site, placed_site_rules, placed_site_tests, placed_sites, placed_tests, rules_of_links, unfit}
use Rattle.mh_site.specs.Rules.{definition_rules}
use Rattle.mh_site.specs.declared.place.LinkPart.{LinkPart}
use Rattle.mh_site.specs.declared.place.LinkPart.TheVariants as of_link
use Rattle.mh_site.proofs.Found.{Finds, New, found_agrees, key_found, link_found, none_twice, none_unfit}
use Rattle.mh_site.proofs.Listed.{Agrees, each_agree, first_of_two, none_agree, one_agrees, two_agree}
use Rattle.mh_site.proofs.Rules.{at_most, key_decides, known_decide, known_decides, levels_decide, memory_fails, named, needs_decide, new_decides, place_decides, rule_fails, rules_hold, types_decide}

abbrev fault_of : DefinitionMisfit → DefinitionFault
fault_of m = m.fault

-- ---- the same faults
record Same (placed : Decided DefinitionMisfit) (plain : Decided DefinitionFault) : Type 0 where
  pub first : option_map fault_of (first_failing placed) ≡ first_failing plain

none_same : Same [] []
none_same = record { first = refl }

map_cond : (b : Bool) (m : DefinitionMisfit) (placed : Option DefinitionMisfit) (plain : Option DefinitionFault) → option_map fault_of placed ≡ plain
    → option_map fault_of (cond b placed (Some m)) ≡ cond b plain (Some m.fault)
map_cond true m placed plain e = e
map_cond false m placed plain e = refl

one_same : (b : Bool) (m : DefinitionMisfit) {ts : Decided DefinitionMisfit} {us : Decided DefinitionFault} → Same ts us → Same ((b, m) ∷ ts) ((b, m.fault) ∷ us)
one_same b m {ts} {us} more = record { first = map_cond b m (first_failing ts) (first_failing us) more.first }

found_same : (found : Option ℕ) (told : ℕ → DefinitionMisfit) (fault : DefinitionFault) (all : Bool) {ts : Decided DefinitionMisfit} {us : Decided DefinitionFault}
    → is_none found ≡ all → ((j : ℕ) → (told j).fault ≡ fault) → Same ts us → Same (none_found found told ∷ ts) ((all, fault) ∷ us)
found_same found told fault all {ts} {us} e same more = record {
  first = map_cond (is_none found) (told (unwrap_or found 0)) (first_failing ts) (first_failing us) more.first
      ∙ (ap (λ b. cond b (first_failing us) (Some (told (unwrap_or found 0)).fault)) e ∙ ap (λ f. cond all (first_failing us) (Some f)) (same (unwrap_or found 0)));
}

cond_both : (a b : Bool) (later : Option DefinitionFault) (fault : DefinitionFault) → cond a (cond b later (Some fault)) (Some fault) ≡ cond (a && b) later (Some fault)
cond_both true b later fault = refl
cond_both false b later fault = refl

-- two tests with one fault are one
both_same : (a b : Bool) (fault : DefinitionFault) {ts : Decided DefinitionMisfit} {us : Decided DefinitionFault} → Same ts ((a, fault) ∷ (b, fault) ∷ us) → Same ts ((a && b, fault) ∷ us)
both_same a b fault {ts} {us} more = record { first = more.first ∙ cond_both a b (first_failing us) fault }

map_or : (one other : Option DefinitionMisfit) → option_map fault_of (option_or one other) ≡ option_or (option_map fault_of one) (option_map fault_of other)
map_or None other = refl
map_or (Some m) other = refl

two_same : (ts vs : Decided DefinitionMisfit) (us ws : Decided DefinitionFault) → Same ts us → Same vs ws → Same (ts ++ vs) (us ++ ws)
two_same ts vs us ws one other = record {
  first = ap (option_map fault_of) (first_of_two ts vs) ∙ (map_or (first_failing ts) (first_failing vs)
      ∙ (ap (λ o. option_or o (option_map fault_of (first_failing vs))) one.first
      ∙ (ap (option_or (first_failing us)) other.first ∙ sym (first_of_two us ws))));
}

each_same : (placed : ℕ → Decided DefinitionMisfit) (plain : ℕ → Decided DefinitionFault) → ((i : ℕ) → Same (placed i) (plain i)) → (is : List ℕ) → Same (flat_map placed is) (flat_map plain is)
each_same placed plain each [] = none_same
each_same placed plain each (i ∷ is) = two_same (placed i) (flat_map placed is) (plain i) (flat_map plain is) (each i) (each_same placed plain each is)

point_same : (i : ℕ) (earlier : List Point) (p : Point) → Same (placed_point_tests i earlier p) (point_tests earlier p)
point_same i earlier p = one_same _ _ (one_same _ _ (one_same _ _ none_same))

links_same : (passes : Link → Bool) (Fact : Link → Type 0) → ((l : Link) → Decides (passes l) (Fact l)) → (links : List Link) (i : ℕ) (part : LinkPart) (fault : DefinitionFault)
    {ts : Decided DefinitionMisfit} {us : Decided DefinitionFault} → Same ts us → Same (none_found (unfit passes links) (at_link i part fault) ∷ ts) ((list_all passes links, fault) ∷ us)
links_same passes Fact each links i part fault more =
    found_same (unfit passes links) (at_link i part fault) fault (list_all passes links) (none_unfit passes Fact each links) (λ j. refl) more

abbrev FewNeeds : Link → Type 0
FewNeeds l = length l.needs ≤ most_needs

abbrev Light : Link → Type 0
Light l = l.weight ≤ greatest_weight

abbrev Cheap : Link → Type 0
Cheap l = l.charge ≤ greatest_charge

abbrev Known : ℕ → Link → Type 0
Known n l = All (λ p. p < n) l.needs

abbrev Once : Link → Type 0
Once l = AllPairs (λ p q. p ≢ q) l.needs

few_decides : (l : Link) → Decides (needs_few l) (FewNeeds l)
few_decides l = at_most (length l.needs) most_needs

light_decides : (l : Link) → Decides (weighs_little l) (Light l)
light_decides l = at_most l.weight greatest_weight

cheap_decides : (l : Link) → Decides (costs_little l) (Cheap l)
cheap_decides l = at_most l.charge greatest_charge

site_same : (n : ℕ) (sites : List Site) (i : ℕ) (earlier : List Site) (s : Site) → Same (placed_site_tests n sites i earlier s) (site_tests n sites earlier s)
site_same n sites i earlier s =
    let ls = s.links in
    one_same _ _ (links_same needs_few FewNeeds few_decides ls i of_link.Needs fault.TooManyNeeds
    (one_same _ _ (one_same _ _ (links_same weighs_little Light light_decides ls i of_link.Weight fault.WeightTooLarge
    (one_same _ _ (links_same (fits_place s) (HasKey s) (key_decides s) ls i of_link.When fault.KeyMismatch
    (found_same (key_twice ls) (at_link i of_link.Whole fault.KeyTwice) fault.KeyTwice (all_differ same_key ls) (none_twice ls) (λ j. refl)
    (both_same (list_all (needs_known n) ls) (leb (point_bound s.target.tree) n) fault.NoPoint
    (links_same (needs_known n) (Known n) (known_decide n) ls i of_link.Needs fault.NoPoint (one_same _ _
    (links_same needs_differ Once needs_decide ls i of_link.Needs fault.NeedTwice
    (one_same _ _ (one_same _ _ (one_same _ _ (one_same _ _ (one_same _ _
    (links_same costs_little Cheap cheap_decides ls i of_link.Charge fault.ChargeTooLarge none_same)))))))))))))))))

definition_same : (version : Version) (ps : List Point) (ss : List Site) → Same (placed_tests version ps ss) (definition_tests version ps ss)
definition_same version ps ss =
    let n = length ps in
    one_same _ _ (one_same _ _ (two_same (placed_points ps) (placed_sites n ss) (tests_of_points ps) (tests_of_sites n ss)
    (each_same (placed_at_point ps) (tests_at_point ps) (λ i. point_same i (take i ps) (slice_index_or ps i no_point)) (range_with_len 0 n))
    (each_same (placed_at_site n ss) (tests_at_site n ss) (λ i. site_same n ss i (take i ss) (slice_index_or ss i no_site)) (range_with_len 0 (length ss)))))

-- ---- what the tests decide
links_agree : (passes : Link → Bool) (Fact : Link → Type 0) → ((l : Link) → Decides (passes l) (Fact l)) → (links : List Link) (told : ℕ → DefinitionMisfit)
    {ts : Decided DefinitionMisfit} {facts later : Tests DefinitionMisfit} → Agrees ts facts later
    → Agrees (none_found (unfit passes links) told ∷ ts) (rules_of_links (λ _ l. Fact l) told links facts) later
links_agree passes Fact each links told more =
    found_agrees (unfit passes links) (λ j. Fact (slice_index_or links j no_link)) told (length links) (link_found passes Fact each links) more

point_agrees : (i : ℕ) (earlier : List Point) (p : Point) (later : Tests DefinitionMisfit)
    → Agrees (placed_point_tests i earlier p) (placed_point_rules i earlier p later) later
point_agrees i earlier p later =
    one_agrees _ _ _ (named (is_name p.name))
    (one_agrees _ _ _ (new_decides (λ q. q.name) p.name earlier)
    (one_agrees _ _ _ (at_most p.cost greatest_cost) (none_agree later)))

site_agrees : (n : ℕ) (sites : List Site) (i : ℕ) (earlier : List Site) (s : Site) (later : Tests DefinitionMisfit)
    → Agrees (placed_site_tests n sites i earlier s) (placed_site_rules n sites i earlier s later) later
site_agrees n sites i earlier s later =
    let ls = s.links in
    one_agrees _ _ _ (at_most (length ls) most_links)
    (links_agree needs_few FewNeeds few_decides ls (at_link i of_link.Needs fault.TooManyNeeds)
    (one_agrees _ _ _ (named (is_name s.name))
    (one_agrees _ _ _ (new_decides (λ e. e.name) s.name earlier)
    (links_agree weighs_little Light light_decides ls (at_link i of_link.Weight fault.WeightTooLarge)
    (one_agrees _ _ _ (place_decides s)
    (links_agree (fits_place s) (HasKey s) (key_decides s) ls (at_link i of_link.When fault.KeyMismatch)
    (found_agrees (key_twice ls) (New ls) (at_link i of_link.Whole fault.KeyTwice) (length ls) (key_found ls)
    (links_agree (needs_known n) (Known n) (known_decide n) ls (at_link i of_link.Needs fault.NoPoint)
    (one_agrees _ _ _ (at_most (point_bound s.target.tree) n)
    (links_agree needs_differ Once needs_decide ls (at_link i of_link.Needs fault.NeedTwice)
    (one_agrees _ _ _ (signature_eq_decides s.target.signature s.method_type)
    (one_agrees _ _ _ (at_most s.level greatest_level)
    (one_agrees _ _ _ (known_decides sites s.target.tree)
    (one_agrees _ _ _ (types_decide sites s.target.tree)
    (one_agrees _ _ _ (levels_decide sites s.level s.target.tree)
    (links_agree costs_little Cheap cheap_decides ls (at_link i of_link.Charge fault.ChargeTooLarge) (none_agree later)))))))))))))))))

fault_told : (placed : Option DefinitionMisfit) (plain : Option DefinitionFault) (m : DefinitionMisfit) → option_map fault_of placed ≡ plain → placed ≡ Some m → plain ≡ Some m.fault
fault_told placed plain m e is = sym e ∙ ap (option_map fault_of) is

module _ (version : Version) (ps : List Point) (ss : List Site) where
  agrees : Agrees (placed_tests version ps ss) (placed_rules version ps ss) (no_more (only out_of_memory))
  agrees =
      let n = length ps in
      one_agrees _ _ _ (at_most n (most_points version))
      (one_agrees _ _ _ (at_most (length ss) (most_sites version))
      (two_agree (placed_points ps) (placed_sites n ss)
      (each_agree (placed_at_point ps) (placed_rules_at_point ps) (λ i. point_agrees i (take i ps) (slice_index_or ps i no_point)) (range_with_len 0 n) _)
      (each_agree (placed_at_site n ss) (placed_rules_at_site n ss) (λ i. site_agrees n ss i (take i ss) (slice_index_or ss i no_site))
      (range_with_len 0 (length ss)) _)))

  same_none : placed_fault version ps ss ≡ None → definition_fault version ps ss ≡ None
  same_none none = sym (definition_same version ps ss).first ∙ ap (option_map fault_of) none

  -- no test fails: no fault is reported, and all rules hold
  pub placed_none : placed_fault version ps ss ≡ None → definition_fault version ps ss ≡ None
  placed_none none = same_none none

  pub placed_hold : placed_fault version ps ss ≡ None → Passes (definition_rules version ps ss)
  placed_hold none = rules_hold version ps ss (same_none none)

  -- the fault is that of the first test that fails, and of the first rule that does not hold
  pub placed_told : (m : DefinitionMisfit) → placed_fault version ps ss ≡ Some m → definition_fault version ps ss ≡ Some m.fault
  placed_told m h = fault_told (placed_fault version ps ss) (definition_fault version ps ss) m (definition_same version ps ss).first h

  pub placed_fails : (m : DefinitionMisfit) → placed_fault version ps ss ≡ Some m → Refuses (definition_rules version ps ss) m.fault
  placed_fails m h = rule_fails version ps ss m.fault (placed_told m h)

  -- and so is its place
  pub place_fails : (m : DefinitionMisfit) → placed_fault version ps ss ≡ Some m → Refuses (placed_rules version ps ss) m
  place_fails m h = agrees.tell m h

  -- no test fails, but out of memory
  pub placed_memory : (m : DefinitionMisfit) → placed_fault version ps ss ≡ None → m ≡ out_of_memory → Refuses (definition_rules version ps ss) m.fault
  placed_memory m none e = memory_fails version ps ss m.fault (same_none none) (ap fault_of e)

  pub place_memory : (m : DefinitionMisfit) → placed_fault version ps ss ≡ None → m ≡ out_of_memory → Refuses (placed_rules version ps ss) m
  place_memory m none e = agrees.go_on m none e

-- ---- of parts that are those that were given
pub given_fault : (version : Version) (tested ps : List Point) (others ss : List Site) (told : Option DefinitionMisfit) → tested ≡ ps → others ≡ ss
    → placed_fault version tested others ≡ told → placed_fault version ps ss ≡ told
given_fault version tested ps others ss told same alike h =
    sym (ap (λ xs. placed_fault version xs ss) same) ∙ (sym (ap (λ xs. placed_fault version tested xs) alike) ∙ h)

pub made_fault : (version : Version) (ps : List Point) (ss : List Site) (m : DefinitionMisfit) → placed_fault version ps ss ≡ Some m → definition_made version ps ss ≡ Err m.fault
made_fault version ps ss m h = ap (made_unless (record { points = ps; sites = map site_in_order ss })) (placed_told version ps ss m h)

-- ---- tests in two parts
pub part_fails : {E : Type 0} (xs ys : Decided E) (e : E) → first_failing xs ≡ Some e → first_failing (xs ++ ys) ≡ Some e
part_fails xs ys e h = first_of_two xs ys ∙ ap (λ o. option_or o (first_failing ys)) h

pub part_holds : {E : Type 0} (xs ys : Decided E) → first_failing xs ≡ None → first_failing (xs ++ ys) ≡ first_failing ys
part_holds xs ys h = first_of_two xs ys ∙ ap (λ o. option_or o (first_failing ys)) h

pub told_by : {X E : Type 0} (r : Result X E) (one other : Option E) → one ≡ other → MatchResult r (λ _. other ≡ None) (λ m. other ≡ Some m) → MatchResult r (λ _. one ≡ None) (λ m. one ≡ Some m)
told_by r one other e h = subst (λ o. MatchResult r (λ _. o ≡ None) (λ m. o ≡ Some m)) (sym e) h

-- what a definition says of its parts
pub ruleset told = (placed_none, placed_hold, placed_told, placed_fails, place_fails, placed_memory, place_memory)
