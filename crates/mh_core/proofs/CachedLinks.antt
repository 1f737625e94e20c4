-- The inline cache of a site's usable links.
use Rattle.std.proofs.Common.{◌≡◌, ℕ, suc, ◌+◌, ◌<◌, ◌≤◌, Bool, true, false, cond, Option, Some, None, List, [], ◌∷◌, length, map, filter, take, slice_index_or, refl, sym, subst, ap, ◌∙◌, arith}
use Rattle.std.specs.List.{All, range_with_len}
use Rattle.std.proofs.lemmas.List.{length-map}
use Rattle.std.proofs.lemmas.List.Elements.{All-filter, All-map}
use Rattle.std.proofs.lemmas.List.FromFn.{get_or-range_with_len, length-range_with_len}
use Rattle.std.proofs.lemmas.Option.{none-some}
use Rattle.mh_type.specs.declared.kind.Kind.{Kind}
use Rattle.mh_type.specs.Kinds.{kind_of}
use Rattle.mh_tree.specs.Handle.{TypedTree}
use Rattle.mh_tree.specs.Typing.{kind_at}
use Rattle.mh_type.specs.Signature.{Signature}
use Rattle.mh_pic.specs.Chains.{MayChain, PlainEntry, chain}
use Rattle.mh_network.specs.Selection.{member}
use Rattle.mh_site.specs.declared.link.Link.{Link}
use Rattle.mh_site.specs.Defined.{DefinitionData, no_link, no_site, site_at}
use Rattle.mh_site.specs.Lawful.{IsDefinition, IsLink}
use Rattle.mh_site.specs.Links.{first_link, link_at, links}
use Rattle.mh_site.specs.Laws.{before_within, numbered}
use Rattle.mh_core.specs.declared.record.Record.{Record}
use Rattle.mh_core.specs.Books.{Legal}
use Rattle.mh_core.specs.Installations.{before_key, cached, chosen, entry, own_links, plan_at, usable}
use Rattle.mh_core.specs.Limits.{LimitsData}
use Rattle.mh_core.specs.Problems.{is_eligible}
use Rattle.mh_core.specs.Records.{base}
use Rattle.mh_core.specs.Laws.Worlds.{base_suits}

-- a link of a site, by its number among all
pub record IsOwn (d : DefinitionData) (s j : ℕ) : Type 0 where
  pub inside : j < length (links d)
  pub lawful : IsLink (length d.points) (site_at d s) (link_at d j).1

own : (d : DefinitionData) (s k : ℕ) → IsDefinition d → s < length d.sites → k < length (site_at d s).links → IsOwn d s (first_link d s + k)
own d s k is h inside =
    let found = numbered d.sites (length d.sites) s k (length d.sites, no_link) h inside in
    record {
      inside = omega (arith, inside, before_within d.sites (length d.sites) s h);
      lawful = subst (λ (l : ℕ × Link). IsLink (length d.points) (site_at d s) l.1) (sym found) ((is.sites s no_site h).links k no_link inside);
    }

all_own : (d : DefinitionData) (s : ℕ) → IsDefinition d → s < length d.sites → All (IsOwn d s) (own_links d s)
all_own d s is h k e within =
    let count = length-range_with_len (first_link d s) (length (site_at d s).links) in
    let inside : k < length (site_at d s).links = omega (arith, within, count) in
    subst (IsOwn d s) (sym (get_or-range_with_len (first_link d s) (length (site_at d s).links) k e inside)) (own d s k is h inside)

pub chosen_own : (d : DefinitionData) (r : List Record) (m s : ℕ) → IsDefinition d → s < length d.sites → All (IsOwn d s) (chosen d r m s)
chosen_own d r m s is h = All-filter (member (plan_at r m).plan.links) (IsOwn d s) (own_links d s) (all_own d s is h)

pub usable_own : (d : DefinitionData) (r : List Record) (m s : ℕ) → IsDefinition d → s < length d.sites → All (IsOwn d s) (usable d r m s)
usable_own d r m s is h =
    All-filter (is_eligible d r) (IsOwn d s) (chosen d r m s) (chosen_own d r m s is h)

fewer : (p : ℕ → Bool) (xs : List ℕ) → length (filter p xs) ≤ length xs
fewer p [] = omega arith
fewer p (x ∷ xs) = by_test (p x) (fewer p xs)
  where
    by_test : (b : Bool) → length (filter p xs) ≤ length xs → length (cond b (x ∷ filter p xs) (filter p xs)) ≤ suc (length xs)
    by_test true later = omega (arith, later)
    by_test false later = omega (arith, later)

pub chosen_few : (d : DefinitionData) (r : List Record) (m s : ℕ) → length (chosen d r m s) ≤ length (site_at d s).links
chosen_few d r m s = omega (arith, fewer (member (plan_at r m).plan.links) (own_links d s), length-range_with_len (first_link d s) (length (site_at d s).links))

usable_few : (d : DefinitionData) (r : List Record) (m s : ℕ) → length (usable d r m s) ≤ length (site_at d s).links
usable_few d r m s =
    omega (arith, fewer (is_eligible d r) (chosen d r m s), chosen_few d r m s)

-- the entries of usable links suit their site's key place
pub may_chain : (d : DefinitionData) (l : LimitsData) (r : List Record) (m s q : ℕ) → IsDefinition d → Legal d l r → s < length d.sites → (site_at d s).key ≡ Some q
    → MayChain (base d r s).signature q (map (entry d) (usable d r m s))
may_chain d l r m s q is legal h key =
    let site = is.sites s no_site h in
    let own = usable_own d r m s is h in
    let keys : (k e : ℕ) → k < length (usable d r m s) → kind_of (entry d (slice_index_or (usable d r m s) k e)).key ≡ kind_at (site_at d s).method_type.parameters q =
    λ k e within.
    let lawful = (own k e within).lawful.key in
    let same : lawful.place ≡ q = let two = sym lawful.is ∙ key in cc in
    lawful.kind ∙ ap (kind_at (site_at d s).method_type.parameters) same in
    let typed : MayChain (site_at d s).method_type q (map (entry d) (usable d r m s)) = record {
      inside = site.place q key;
      few = omega (arith, site.few, usable_few d r m s, length-map (usable d r m s) (entry d));
      keys = All-map (λ (e : PlainEntry). kind_of e.key ≡ kind_at (site_at d s).method_type.parameters q) (entry d) (usable d r m s) keys;
      few_needs = All-map (λ (e : PlainEntry). length e.needs ≤ 8) (entry d) (usable d r m s) (λ k e within. (own k e within).lawful.few);
    } in
    subst (λ (t : Signature). MayChain t q (map (entry d) (usable d r m s))) (sym (base_suits d l r s is h legal).signature) typed

-- a site without a key place has no links
no_links : (d : DefinitionData) (s : ℕ) (ls : List Link) → IsDefinition d → s < length d.sites → (site_at d s).key ≡ None → (site_at d s).links ≡ ls → length ls ≡ 0
no_links d s [] is h none e = refl
no_links d s (l ∷ ls) is h none e =
    let inside : 0 < length (site_at d s).links = omega (arith, ap length e) in
    absurd (none-some _ (sym none ∙ ((is.sites s no_site h).links 0 no_link inside).key.is))

pub no_usable : (d : DefinitionData) (r : List Record) (m s : ℕ) → IsDefinition d → s < length d.sites → (site_at d s).key ≡ None → usable d r m s ≡ []
no_usable d r m s is h none =
    ap (λ (n : ℕ). filter (is_eligible d r) (filter (member (plan_at r m).plan.links) (range_with_len (first_link d s) n))) (no_links d s (site_at d s).links is h none refl)

-- a site without a key place runs its base
pub cached_base : (d : DefinitionData) (r : List Record) (m s : ℕ) (js : List ℕ) → IsDefinition d → s < length d.sites → (site_at d s).key ≡ None → js ≡ usable d r m s → cached d s (base d r s) js ≡ base d r s
cached_base d r m s js is h none same = ap (cached d s (base d r s)) (same ∙ no_usable d r m s is h none)

-- the cache of entries over kinds before the key place
abbrev pub over : List Kind → TypedTree → List PlainEntry → TypedTree
over kinds t entries = record { tree = chain kinds t.tree entries; signature = t.signature }

-- a cache over the base's own kinds is one over those of the site
pub cached_chain : (d : DefinitionData) (l : LimitsData) (r : List Record) (s q : ℕ) (js : List ℕ) → IsDefinition d → Legal d l r → s < length d.sites → (site_at d s).key ≡ Some q
    → over (take q (base d r s).signature.parameters) (base d r s) (map (entry d) js) ≡ cached d s (base d r s) js
cached_chain d l r s q js is legal h key =
    let parameters = (site_at d s).method_type.parameters in
    let kinds : take q (base d r s).signature.parameters ≡ before_key (site_at d s) =
    ap (λ (t : Signature). take q t.parameters) (base_suits d l r s is h legal).signature
    ∙ sym (ap (λ (k : Option ℕ). elim k as (λ _. List Kind) [ None ↦ [] | Some i ↦ take i parameters ]) key) in
    ap (λ (ks : List Kind). over ks (base d r s) (map (entry d) js)) kinds
