-- What the rules of a definition leave.
use Rattle.std.proofs.Common.{◌≡◌, ◌≢◌, ◌≤◌, ◌<◌, ℕ, true, List, [], ◌∷◌, length, map, take, refl, ◌∙◌, subst, sym, ap, arith, slice_index_or}
use Rattle.std.specs.List.{All, AllPairs, list_any}
use Rattle.std.proofs.lemmas.List.{length-map, get_or-map, get_or_default}
use Rattle.std.proofs.lemmas.List.Elements.{All-map}
use Rattle.mh_base.specs.Tests.{Tests, Passes}
use Rattle.mh_tree.specs.Limits.{greatest_level, point_bound}
use Rattle.mh_site.specs.declared.point.Point.{Point}
use Rattle.mh_site.specs.declared.link.Link.{Link}
use Rattle.mh_site.specs.declared.site.Site.{Site}
use Rattle.mh_site.specs.declared.version.Version.{Version}
use Rattle.mh_site.specs.declared.version.Version.TheVariants.{One, Two}
use Rattle.mh_site.specs.declared.fault.DefinitionFault.{DefinitionFault}
use Rattle.mh_site.specs.Ascending.{ascending}
use Rattle.mh_site.specs.Names.{is_name}
use Rattle.mh_site.specs.Defined.{no_point, no_site}
use Rattle.mh_base.specs.Limits.{most_needs}
use Rattle.mh_site.specs.Limits.{most_points, most_sites, most_links, greatest_charge, greatest_cost, greatest_weight}
use Rattle.mh_site.specs.Definitions.{all_differ, same_key, link_in_order, site_in_order}
use Rattle.mh_site.specs.Rules.{HasPlace, point_rules, site_rules, rules_at_point, rules_at_site, definition_rules}
use Rattle.mh_type.specs.Signature.{Signature}
use Rattle.mh_tree.specs.Laws.{each_map}
use Rattle.mh_site.specs.Invoking.{InvokesLower, InvokesOfType, IsLower, IsOfType}
use Rattle.mh_site.specs.Lawful.{HasKey, IsLink, IsSite, IsPoint, AreDistinct, MayInvokeFrom, IsDefinition}
use Rattle.mh_site.proofs.Listed.{each_fact}
use Rattle.mh_site.proofs.Naming.{distinct}
use Rattle.mh_site.proofs.Rules.{known_decide, keys_decide, needs_decide}
use Rattle.mh_site.proofs.Sorting.{ascending-length, ascending-all, ascending-strictly}

-- ---- points
record PointTested (earlier : List Point) (p : Point) : Type 0 where
  pub named : is_name p.name ≡ true
  pub new : All (λ q. p.name ≢ q.name) earlier
  pub cheap : p.cost ≤ greatest_cost

point_read : (earlier : List Point) (p : Point) (later : Tests DefinitionFault) → Passes (point_rules earlier p later)
    → PointTested earlier p × Passes later
point_read earlier p later h = (record { named = h.0; new = h.1.0; cheap = h.1.1.0 }, h.1.1.1)

module _ (ps : List Point) (tested : (i : ℕ) → i < length ps → PointTested (take i ps) (slice_index_or ps i no_point)) where
  lawful_points : All IsPoint ps
  lawful_points i d lt = let t = tested i lt in subst IsPoint (get_or_default ps i no_point d lt) record { name = t.named; cheap = t.cheap }

  distinct_points : AreDistinct (map (λ p. p.name) ps)
  distinct_points = distinct (λ p. p.name) ps no_point (λ i lt. (tested i lt).new)

-- ---- keys
others_keys : (l : Link) (ls : List Link) → list_any (same_key (link_in_order l)) (map link_in_order ls) ≡ list_any (same_key l) ls
others_keys l [] = refl
others_keys l (k ∷ ls) = rw (others_keys l ls) refl

keys_kept : (ls : List Link) → all_differ same_key (map link_in_order ls) ≡ all_differ same_key ls
keys_kept [] = refl
keys_kept (l ∷ ls) = rw (others_keys l ls, keys_kept ls) refl

-- ---- sites
record SiteTested (n : ℕ) (sites earlier : List Site) (s : Site) : Type 0 where
  pub few_links : length s.links ≤ most_links
  pub few_needs : All (λ l. length l.needs ≤ most_needs) s.links
  pub named : is_name s.name ≡ true
  pub new : All (λ e. s.name ≢ e.name) earlier
  pub light : All (λ l. l.weight ≤ greatest_weight) s.links
  pub place : HasPlace s
  pub fits : All (HasKey s) s.links
  pub keys : AllPairs (λ l k. l.when ≢ k.when) s.links
  pub known : All (λ l. All (λ p. p < n) l.needs) s.links
  pub known_target : point_bound s.target.tree ≤ n
  pub once : All (λ l. AllPairs (λ p q. p ≢ q) l.needs) s.links
  pub typed : s.target.signature ≡ s.method_type
  pub low : s.level ≤ greatest_level
  pub of_type : InvokesOfType sites s.target.tree
  pub lower : InvokesLower sites s.level s.target.tree
  pub cheap : All (λ l. l.charge ≤ greatest_charge) s.links

site_read : (n : ℕ) (sites earlier : List Site) (s : Site) (later : Tests DefinitionFault) → Passes (site_rules n sites earlier s later)
    → SiteTested n sites earlier s × Passes later
site_read n sites earlier s later h = (
  record {
    few_links = h.0;
    few_needs = h.1.0;
    named = h.1.1.0;
    new = h.1.1.1.0;
    light = h.1.1.1.1.0;
    place = h.1.1.1.1.1.0;
    fits = h.1.1.1.1.1.1.0;
    keys = h.1.1.1.1.1.1.1.0;
    known = h.1.1.1.1.1.1.1.1.0.0;
    known_target = h.1.1.1.1.1.1.1.1.0.1;
    once = h.1.1.1.1.1.1.1.1.1.0;
    typed = h.1.1.1.1.1.1.1.1.1.1.0;
    low = h.1.1.1.1.1.1.1.1.1.1.1.0;
    of_type = h.1.1.1.1.1.1.1.1.1.1.1.1.1.0;
    lower = h.1.1.1.1.1.1.1.1.1.1.1.1.1.1.0;
    cheap = h.1.1.1.1.1.1.1.1.1.1.1.1.1.1.1.0;
  },
  h.1.1.1.1.1.1.1.1.1.1.1.1.1.1.1.1,
)

module _ (n : ℕ) (sites earlier : List Site) (s : Site) (t : SiteTested n sites earlier s) where
  has_key : (l : Link) → HasKey s l → HasKey (site_in_order s) (link_in_order l)
  has_key l h = record { place = h.place; is = h.is; inside = h.inside; kind = h.kind }

  lawful_link : (k : ℕ) (d : Link) → k < length s.links → IsLink n (site_in_order s) (link_in_order (slice_index_or s.links k d))
  lawful_link k d lt =
      let l = slice_index_or s.links k d in
      let few : length l.needs ≤ most_needs = t.few_needs k d lt in
      let same : length (ascending l.needs) ≡ length l.needs = ascending-length l.needs in
      record {
        few = omega arith;
        light = t.light k d lt;
        cheap = t.cheap k d lt;
        known = (known_decide n (link_in_order l)).0 (ascending-all _ l.needs ∙ (known_decide n l).1 (t.known k d lt));
        ascending = ascending-strictly l.needs ((needs_decide l).1 (t.once k d lt));
        key = has_key l (t.fits k d lt);
      }

  lawful_site : IsSite n (site_in_order s)
  lawful_site =
      let few : length s.links ≤ most_links = t.few_links in
      record {
        name = t.named;
        few = simp length-map few;
        place = t.place.inside;
        links = All-map (IsLink n (site_in_order s)) link_in_order s.links lawful_link;
        keys = keys_kept s.links ∙ (keys_decide s.links).1 t.keys;
        known = t.known_target;
        typed = t.typed;
        low = t.low;
      }

abbrev site_names : List Site → List (List ℕ)
site_names ss = map (λ s. s.name) ss

-- needs in order change no name
names_kept : (ss : List Site) → site_names (map site_in_order ss) ≡ site_names ss
names_kept [] = refl
names_kept (s ∷ ss) = ap (λ ns. s.name ∷ ns) (names_kept ss)

module _ (n : ℕ) (ss : List Site) (tested : (i : ℕ) → i < length ss → SiteTested n ss (take i ss) (slice_index_or ss i no_site)) where
  lawful_sites : All (IsSite n) (map site_in_order ss)
  lawful_sites = All-map (IsSite n) site_in_order ss (λ i d lt. subst (λ s. IsSite n (site_in_order s)) (get_or_default ss i no_site d lt)
      (lawful_site n ss (take i ss) (slice_index_or ss i no_site) (tested i lt)))

  -- sites in order are of the types and the levels of the given ones
  in_order : (k : ℕ) → k < length ss → slice_index_or (map site_in_order ss) k no_site ≡ site_in_order (slice_index_or ss k no_site)
  in_order k lt = get_or-map site_in_order ss k no_site no_site lt

  keeps_types : (k : ℕ) (m : Signature) → IsOfType ss k m → IsOfType (map site_in_order ss) k m
  keeps_types k m h = record { known = simp length-map (h.known); same = h.same ∙ sym (ap (λ (s : Site). s.method_type) (in_order k h.known)) }

  keeps_levels : (l k : ℕ) (m : Signature) → IsLower ss l k m → IsLower (map site_in_order ss) l k m
  keeps_levels l k m h = record { known = simp length-map (h.known); lower = subst (λ (s : Site). s.level < l) (sym (in_order k h.known)) h.lower }

  lawful_invokes : All (λ s. MayInvokeFrom (map site_in_order ss) s.level s.target.tree) (map site_in_order ss)
  lawful_invokes =
      let Holds : Site → Type 0 = λ s. MayInvokeFrom (map site_in_order ss) s.level s.target.tree in
      All-map Holds site_in_order ss (λ i d lt.
      let s = slice_index_or ss i no_site in
      let t = tested i lt in
      subst (λ s. Holds (site_in_order s)) (get_or_default ss i no_site d lt)
      record {
        types = each_map (IsOfType ss) (IsOfType (map site_in_order ss)) keeps_types s.target.tree t.of_type;
        levels = each_map (IsLower ss s.level) (IsLower (map site_in_order ss) s.level) (keeps_levels s.level) s.target.tree t.lower;
      })

  distinct_sites : AreDistinct (site_names (map site_in_order ss))
  distinct_sites = subst AreDistinct (sym (names_kept ss)) (distinct (λ s. s.name) ss no_site (λ i lt. (tested i lt).new))

-- what a version allows, the newest does
points-newest : (version : Version) → most_points version ≤ most_points Two
points-newest One = omega arith
points-newest Two = omega arith

sites-newest : (version : Version) → most_sites version ≤ most_sites Two
sites-newest One = omega arith
sites-newest Two = omega arith

-- parts that pass the rules, with their needs in ascending order, keep what each definition keeps
pub lawful : (version : Version) (ps : List Point) (ss : List Site) → Passes (definition_rules version ps ss) → IsDefinition record { points = ps; sites = map site_in_order ss }
lawful version ps ss h =
    let n = length ps in
    let few_points : length ps ≤ most_points version = h.0 in
    let few_sites : length ss ≤ most_sites Two = let few : length ss ≤ most_sites version = h.1.0 in omega (arith, few, sites-newest version) in
    let points =
    each_fact (rules_at_point ps) (λ i. PointTested (take i ps) (slice_index_or ps i no_point))
    (λ i. point_read (take i ps) (slice_index_or ps i no_point)) 0 n _ h.1.1 in
    let sites =
    each_fact (rules_at_site n ss) (λ i. SiteTested n ss (take i ss) (slice_index_or ss i no_site))
    (λ i. site_read n ss (take i ss) (slice_index_or ss i no_site)) 0 (length ss) _ points.1 in
    record {
      few_points = omega (arith, few_points, points-newest version);
      few_sites = simp length-map few_sites;
      point_names = distinct_points ps (λ i lt. points.0 i (omega arith) (omega arith));
      site_names = distinct_sites n ss (λ i lt. sites.0 i (omega arith) (omega arith));
      points = lawful_points ps (λ i lt. points.0 i (omega arith) (omega arith));
      sites = lawful_sites n ss (λ i lt. sites.0 i (omega arith) (omega arith));
      invokes = lawful_invokes n ss (λ i lt. sites.0 i (omega arith) (omega arith));
    }
