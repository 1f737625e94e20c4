-- The tests of a definition decide its rules.
use Rattle.std.proofs.Common.{◌≡◌, ◌≢◌, ◌≤◌, ◌<◌, ℕ, zero, suc, Bool, true, false, not, ◌&&◌, ◌||◌, ◌==◌, List, [], ◌∷◌, length, take, slice_index_or, refl, ap, sym, subst, ◌∙◌, Option, Some, None, leb, nat_lt, arith}
use Rattle.std.specs.Bool.{Decides}
use Rattle.std.specs.List.{All, AllPairs, list_all, list_any, range_with_len}
use Rattle.std.specs.Str.{bytes_eq}
use Rattle.std.proofs.lemmas.Bool.{leb-true, le-leb}
use Rattle.std.proofs.lemmas.Bool.Decides.{Decides-and, Decides-by_and, Decides-eqb, Decides-like, Decides-ltb, Decides-not}
use Rattle.std.proofs.lemmas.List.Kept.{AllPairs-cons}
use Rattle.std.proofs.lemmas.Slice.Eq.{bytes_eq-Decides}
use Rattle.mh_type.specs.declared.kind.Kind.{Kind}
use Rattle.mh_type.specs.declared.value.Value.{Value}
use Rattle.mh_type.specs.Kinds.{kind_of, kind_eq}
use Rattle.mh_type.specs.Laws.{signature_eq_decides, kind_eq_decides, values_decide}
use Rattle.mh_type.specs.Signature.{Signature, signature_eq}
use Rattle.mh_tree.specs.Laws.{each_decides as invocations_decide}
use Rattle.mh_tree.specs.Tree.{Tree}
use Rattle.mh_site.specs.Invoking.{InvokesLower, InvokesOfType, IsLower, IsOfType, invokes_known, invokes_lower, invokes_of_type, is_lower, is_of_type}
use Rattle.mh_base.specs.Tests.{Tests, Passes, Refuses, no_more, only}
use Rattle.mh_tree.specs.Limits.{greatest_level, point_bound, site_bound}
use Rattle.mh_tree.specs.Typing.{kind_at}
use Rattle.mh_site.specs.declared.point.Point.{Point}
use Rattle.mh_site.specs.declared.link.Link.{Link}
use Rattle.mh_site.specs.declared.site.Site.{Site}
use Rattle.mh_site.specs.declared.version.Version.{Version}
use Rattle.mh_site.specs.declared.fault.DefinitionFault.{DefinitionFault}
use Rattle.mh_site.specs.declared.fault.DefinitionFault.TheVariants as fault
use Rattle.mh_site.specs.Defined.{no_point, no_site}
use Rattle.mh_site.specs.Names.{is_name}
use Rattle.mh_site.specs.Definitions.{all_differ, point_tests, tests_at_point, tests_of_points, site_tests, tests_at_site, tests_of_sites, definition_tests, definition_fault, needs_few, weighs_little, costs_little, has_no, has_place, fits_place, same_key, needs_known, needs_differ}
use Rattle.mh_site.specs.Lawful.{HasKey}
use Rattle.mh_base.specs.Limits.{most_needs}
use Rattle.mh_site.specs.Limits.{most_points, most_sites, most_links, greatest_charge, greatest_cost, greatest_weight}
use Rattle.mh_site.specs.Rules.{HasPlace, point_rules, site_rules, rules_at_point, rules_at_site, definition_rules}
use Rattle.mh_site.proofs.Listed.{Agrees, none_agree, one_agrees, two_agree, each_agree}

-- ---- numbers, names and lists
pub at_most : (m n : ℕ) → Decides (leb m n) (m ≤ n)
at_most m n = (leb-true m n, le-leb m n)

pub named : (b : Bool) → Decides b (b ≡ true)
named b = (λ h. h, λ h. h)

module _ {X : Type 0} (test : X → Bool) (Fact : X → Type 0) where
  pub each_decides : ((x : X) → Decides (test x) (Fact x)) → (xs : List X) → Decides (list_all test xs) (All Fact xs)
  each_decides each xs = Decides-by_and test Fact (list_all test) each refl (λ y ys. refl) xs

  not_or : (a b : Bool) → not (a || b) ≡ (not a && not b)
  not_or true b = refl
  not_or false b = refl

  none_decides : ((x : X) → Decides (not (test x)) (Fact x)) → (xs : List X) → Decides (not (list_any test xs)) (All Fact xs)
  none_decides each xs =
      Decides-by_and (λ x. not (test x)) Fact (λ ys. not (list_any test ys)) each refl (λ y ys. not_or (test y) (list_any test ys)) xs

module _ {X : Type 0} (same : X → X → Bool) (Apart : X → X → Type 0) (each : (x y : X) → Decides (not (same x y)) (Apart x y)) where
  split_pairs : (x : X) (xs : List X) → AllPairs Apart (x ∷ xs) → All (Apart x) xs × AllPairs Apart xs
  split_pairs x xs h = (
    λ k d lt. h zero (suc k) d (omega arith) (omega arith),
    λ i j d lt inside. h (suc i) (suc j) d (omega arith) (omega arith),
  )

  pairs_decide : (xs : List X) → Decides (all_differ same xs) (AllPairs Apart xs)
  pairs_decide [] = (λ _ i j d lt inside. absurd (omega arith), λ _. refl)
  pairs_decide (x ∷ xs) =
      Decides-like (not (list_any (same x) xs) && all_differ same xs) (λ both. AllPairs-cons Apart x xs both.0 both.1) (split_pairs x xs)
      (Decides-and (not (list_any (same x) xs)) (all_differ same xs) (none_decides (same x) (Apart x) (each x) xs) (pairs_decide xs))

-- ---- keys and their places
-- what `HasKey` and `HasPlace` say, of the parts that they speak of
record Place (key : Option ℕ) (kinds : List Kind) (v : Value) : Type 0 where
  pub place : ℕ
  pub is : key ≡ Some place
  pub inside : place < length kinds
  pub kind : kind_of v ≡ kind_at kinds place

abbrev fits : Option ℕ → List Kind → Value → Bool
fits key kinds v = elim key as (λ _. Bool) [ None ↦ false | Some q ↦ nat_lt q (length kinds) && kind_eq (kind_of v) (kind_at kinds q) ]

fitting : (key : Option ℕ) (kinds : List Kind) (v : Value) → Decides (fits key kinds v) (Place key kinds v)
fitting None kinds v = (λ h. cc, λ p. let e = p.is in cc)
fitting (Some q) kinds v =
    let kind = kind_at kinds q in
    Decides-like (nat_lt q (length kinds) && kind_eq (kind_of v) kind)
    (λ (both : (q < length kinds) × (kind_of v ≡ kind)). record { place = q; is = refl; inside = both.0; kind = both.1 })
    (λ p. let e : q ≡ p.place = cc (p.is) in (subst (λ k. k < length kinds) (sym e) p.inside, p.kind ∙ ap (kind_at kinds) (sym e)))
    (Decides-and (nat_lt q (length kinds)) (kind_eq (kind_of v) kind) (Decides-ltb q (length kinds)) (kind_eq_decides (kind_of v) kind))

pub key_decides : (s : Site) (l : Link) → Decides (fits_place s l) (HasKey s l)
key_decides s l =
    Decides-like (fits_place s l)
    (λ p. record { place = p.place; is = p.is; inside = p.inside; kind = p.kind })
    (λ p. record { place = p.place; is = p.is; inside = p.inside; kind = p.kind })
    (fitting s.key s.method_type.parameters l.when)

record Placed (key : Option ℕ) (kinds : List Kind) (links : List Link) : Type 0 where
  pub inside : (q : ℕ) → key ≡ Some q → q < length kinds
  pub linked : key ≡ None → links ≡ []

no_links : (links : List Link) → Decides (has_no links) (links ≡ [])
no_links [] = (λ h. refl, λ e. refl)
no_links (l ∷ ls) = (λ h. cc, λ e. cc)

placing : (key : Option ℕ) (kinds : List Kind) (links : List Link)
    → Decides (elim key as (λ _. Bool) [ None ↦ has_no links | Some q ↦ nat_lt q (length kinds) ]) (Placed key kinds links)
placing None kinds links =
    Decides-like (has_no links) (λ e. record { inside = λ q is. cc; linked = λ _. e }) (λ p. p.linked refl) (no_links links)
placing (Some q) kinds links =
    Decides-like (nat_lt q (length kinds))
    (λ lt. record { inside = λ p is. let e : q ≡ p = cc in omega arith; linked = λ none. cc }) (λ p. p.inside q refl)
    (Decides-ltb q (length kinds))

pub place_decides : (s : Site) → Decides (has_place s) (HasPlace s)
place_decides s =
    Decides-like (has_place s) (λ p. record { inside = p.inside; linked = p.linked }) (λ p. record { inside = p.inside; linked = p.linked })
    (placing s.key s.method_type.parameters s.links)

-- ---- the rules
pub known_decide : (n : ℕ) (l : Link) → Decides (needs_known n l) (All (λ p. p < n) l.needs)
known_decide n l = each_decides (λ p. nat_lt p n) (λ p. p < n) (λ p. Decides-ltb p n) l.needs

points_decide : (n : ℕ) (s : Site)
    → Decides (list_all (needs_known n) s.links && leb (point_bound s.target.tree) n)
    (All (λ l. All (λ p. p < n) l.needs) s.links × (point_bound s.target.tree ≤ n))
points_decide n s =
    Decides-and (list_all (needs_known n) s.links) (leb (point_bound s.target.tree) n)
    (each_decides (needs_known n) (λ l. All (λ p. p < n) l.needs) (known_decide n) s.links) (at_most (point_bound s.target.tree) n)

pub needs_decide : (l : Link) → Decides (needs_differ l) (AllPairs (λ p q. p ≢ q) l.needs)
needs_decide l = pairs_decide (λ p q. p == q) (λ p q. p ≢ q) (λ p q. Decides-not (p == q) (Decides-eqb p q)) l.needs

pub keys_decide : (ls : List Link) → Decides (all_differ same_key ls) (AllPairs (λ l k. l.when ≢ k.when) ls)
keys_decide ls = pairs_decide same_key (λ l k. l.when ≢ k.when) (λ l k. Decides-not (same_key l k) (values_decide l.when k.when)) ls

pub new_decides : {X : Type 0} (name : X → List ℕ) (n : List ℕ) (xs : List X)
    → Decides (not (list_any (λ x. bytes_eq n (name x)) xs)) (All (λ x. n ≢ name x) xs)
new_decides name n xs =
    none_decides (λ x. bytes_eq n (name x)) (λ x. n ≢ name x) (λ x. Decides-not (bytes_eq n (name x)) (bytes_eq-Decides n (name x))) xs

-- no earlier link has this key
pub new_key_decides : (l : Link) (earlier : List Link) → Decides (not (list_any (same_key l) earlier)) (All (λ k. l.when ≢ k.when) earlier)
new_key_decides l earlier = none_decides (same_key l) (λ k. l.when ≢ k.when) (λ k. Decides-not (same_key l k) (values_decide l.when k.when)) earlier

-- the tests of one invocation
of_type_decides : (sites : List Site) (k : ℕ) (n : Signature) → Decides (is_of_type sites k n) (IsOfType sites k n)
of_type_decides sites k n =
    let m = (slice_index_or sites k no_site).method_type in
    Decides-like (nat_lt k (length sites) && signature_eq n m)
    (λ (both : (k < length sites) × (n ≡ m)). record { known = both.0; same = both.1 }) (λ h. (h.known, h.same))
    (Decides-and (nat_lt k (length sites)) (signature_eq n m) (Decides-ltb k (length sites)) (signature_eq_decides n m))

lower_decides : (sites : List Site) (l k : ℕ) (n : Signature) → Decides (is_lower sites l k) (IsLower sites l k n)
lower_decides sites l k n =
    let m = (slice_index_or sites k no_site).level in
    Decides-like (nat_lt k (length sites) && nat_lt m l)
    (λ (both : (k < length sites) × (m < l)). record { known = both.0; lower = both.1 }) (λ h. (h.known, h.lower))
    (Decides-and (nat_lt k (length sites)) (nat_lt m l) (Decides-ltb k (length sites)) (Decides-ltb m l))

-- the tests of a tree
pub known_decides : (sites : List Site) (t : Tree) → Decides (invokes_known sites t) (site_bound t ≤ length sites)
known_decides sites t = at_most (site_bound t) (length sites)

pub types_decide : (sites : List Site) (t : Tree) → Decides (invokes_of_type sites t) (InvokesOfType sites t)
types_decide sites t = invocations_decide (is_of_type sites) (IsOfType sites) (of_type_decides sites) t

pub levels_decide : (sites : List Site) (l : ℕ) (t : Tree) → Decides (invokes_lower sites l t) (InvokesLower sites l t)
levels_decide sites l t = invocations_decide (λ k m. is_lower sites l k) (IsLower sites l) (lower_decides sites l) t

point_agrees : (earlier : List Point) (p : Point) (later : Tests DefinitionFault)
    → Agrees (point_tests earlier p) (point_rules earlier p later) later
point_agrees earlier p later =
    one_agrees _ _ _ (named (is_name p.name))
    (one_agrees _ _ _ (new_decides (λ q. q.name) p.name earlier)
    (one_agrees _ _ _ (at_most p.cost greatest_cost) (none_agree later)))

site_agrees : (n : ℕ) (sites earlier : List Site) (s : Site) (later : Tests DefinitionFault)
    → Agrees (site_tests n sites earlier s) (site_rules n sites earlier s later) later
site_agrees n sites earlier s later =
    let ls = s.links in
    one_agrees _ _ _ (at_most (length ls) most_links)
    (one_agrees _ _ _ (each_decides needs_few (λ l. length l.needs ≤ most_needs) (λ l. at_most (length l.needs) most_needs) ls)
    (one_agrees _ _ _ (named (is_name s.name))
    (one_agrees _ _ _ (new_decides (λ e. e.name) s.name earlier)
    (one_agrees _ _ _ (each_decides weighs_little (λ l. l.weight ≤ greatest_weight) (λ l. at_most l.weight greatest_weight) ls)
    (one_agrees _ _ _ (place_decides s)
    (one_agrees _ _ _ (each_decides (fits_place s) (HasKey s) (key_decides s) ls)
    (one_agrees _ _ _ (keys_decide ls)
    (one_agrees _ _ _ (points_decide n s)
    (one_agrees _ _ _ (each_decides needs_differ (λ l. AllPairs (λ p q. p ≢ q) l.needs) needs_decide ls)
    (one_agrees _ _ _ (signature_eq_decides s.target.signature s.method_type)
    (one_agrees _ _ _ (at_most s.level greatest_level)
    (one_agrees _ _ _ (known_decides sites s.target.tree)
    (one_agrees _ _ _ (types_decide sites s.target.tree)
    (one_agrees _ _ _ (levels_decide sites s.level s.target.tree)
    (one_agrees _ _ _ (each_decides costs_little (λ l. l.charge ≤ greatest_charge) (λ l. at_most l.charge greatest_charge) ls) (none_agree later))))))))))))))))

module _ (version : Version) (ps : List Point) (ss : List Site) where
  abbrev memory : Tests DefinitionFault
  memory = no_more (only fault.NoMemory)

  agrees : Agrees (definition_tests version ps ss) (definition_rules version ps ss) memory
  agrees =
      let n = length ps in
      one_agrees _ _ _ (at_most n (most_points version))
      (one_agrees _ _ _ (at_most (length ss) (most_sites version))
      (two_agree (tests_of_points ps) (tests_of_sites n ss)
      (each_agree (tests_at_point ps) (rules_at_point ps) (λ i. point_agrees (take i ps) (slice_index_or ps i no_point)) (range_with_len 0 n) _)
      (each_agree (tests_at_site n ss) (rules_at_site n ss) (λ i. site_agrees n ss (take i ss) (slice_index_or ss i no_site))
      (range_with_len 0 (length ss)) _)))

  -- no fault: all rules hold
  pub rules_hold : definition_fault version ps ss ≡ None → Passes (definition_rules version ps ss)
  rules_hold none = agrees.pass none tt

  -- the fault is that of the first rule that does not hold
  pub rule_fails : (told : DefinitionFault) → definition_fault version ps ss ≡ Some told → Refuses (definition_rules version ps ss) told
  rule_fails told h = agrees.tell told h

  -- no fault, but out of memory
  pub memory_fails : (told : DefinitionFault) → definition_fault version ps ss ≡ None → told ≡ fault.NoMemory → Refuses (definition_rules version ps ss) told
  memory_fails told none e = agrees.go_on told none e
