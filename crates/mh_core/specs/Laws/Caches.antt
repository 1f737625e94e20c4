-- The inline cache that a site runs: its links are the site's own, it names only declared points, it invokes sites as its base tree does,
-- and it means what its base tree means.
use Rattle.std.proofs.Common.{◌≡◌, ℕ, ◌+◌, ◌<◌, ◌≤◌, ◌==◌, Bool, true, false, cond, Option, Some, None, List, [], ◌∷◌, length, map, take, slice_index_or, refl, ap, sym, subst, ◌∙◌, arith}
use Rattle.std.specs.List.{All}
use Rattle.std.proofs.lemmas.List.Elements.{All-filter, All-map}
use Rattle.std.proofs.lemmas.List.FromFn.{get_or-range_with_len, length-range_with_len}
use Rattle.std.proofs.lemmas.Option.{none-some}
use Rattle.mh_type.specs.declared.value.Value.{Value}
use Rattle.mh_type.specs.Fits.{Fits}
use Rattle.mh_type.specs.Kinds.{kind_of}
use Rattle.mh_tree.specs.Handle.{TypedTree}
use Rattle.mh_tree.specs.Limits.{point_bound}
use Rattle.mh_tree.specs.Meaning.{mean}
use Rattle.mh_tree.specs.Typing.{IsTyped, kind_at}
use Rattle.mh_tree.specs.Laws.{few_parameters}
use Rattle.mh_pic.specs.Chains.{PlainEntry, HaveKind, HaveNeedsBelow}
use Rattle.mh_pic.specs.Laws.{chain_bound, chain_faithful, chain_invokes}
use Rattle.mh_site.specs.declared.link.Link.{Link}
use Rattle.mh_site.specs.declared.site.Site.{Site}
use Rattle.mh_site.specs.Defined.{DefinitionData, link_of, no_link, no_site, site_at}
use Rattle.mh_site.specs.Invoking.{IsLower, IsOfType}
use Rattle.mh_site.specs.Lawful.{IsDefinition, IsLink, MayInvokeFrom}
use Rattle.mh_site.specs.Links.{first_link, link_at}
use Rattle.mh_site.specs.Laws.{numbered}
use Rattle.mh_core.specs.declared.record.Record.{Record}
use Rattle.mh_core.specs.declared.record.Record.TheVariants.{Flushed, Targeted, Invalidated, Snapped, Published, Installed}
use Rattle.mh_core.specs.Installations.{before_key, cached, chosen, entry, is_current, kept, own_links, plan_at, usable}
use Rattle.mh_core.specs.Problems.{is_eligible}
use Rattle.mh_network.specs.Selection.{member}
use Rattle.mh_tree.specs.Environment.{Environment}

none_of : (P : ℕ → Type 0) → All P []
none_of P k e below = absurd (omega arith)

all_cond : (P : ℕ → Type 0) (b : Bool) (xs ys : List ℕ) → All P xs → All P ys → All P (cond b xs ys)
all_cond P true xs ys h k = h
all_cond P false xs ys h k = k

before_some : (x : Site) (q : ℕ) → x.key ≡ Some q → before_key x ≡ take q x.method_type.parameters
before_some x q e = rw e refl

module _ (d : DefinitionData) (s : ℕ) where
  -- a fact of all links of the site holds of those that it holds
  pub kept_all : (P : ℕ → Type 0) (r : List Record) → All P (own_links d s) → All P (kept d r s)
  kept_all P [] own = none_of P
  kept_all P (Flushed w hits ∷ r) own = kept_all P r own
  kept_all P (Targeted t tree ∷ r) own = all_cond P (t == s) [] (kept d r s) (none_of P) (kept_all P r own)
  kept_all P (Invalidated points ∷ r) own = kept_all P r own
  kept_all P (Snapped ∷ r) own = kept_all P r own
  kept_all P (Published n plan ∷ r) own = kept_all P r own
  kept_all P (Installed m ∷ r) own =
      all_cond P (is_current r m s) (usable d r m s) (kept d r s)
      (All-filter (is_eligible d r) P (chosen d r m s) (All-filter (member (plan_at r m).plan.links) P (own_links d s) own))
      (kept_all P r own)

  -- a lawful link of the site
  abbrev pub IsOwn : ℕ → Type 0
  IsOwn j = IsLink (length d.points) (site_at d s) (link_at d j).1

  own_lawful : IsDefinition d → s < length d.sites → All IsOwn (own_links d s)
  own_lawful is h k e below =
      let n = length (site_at d s).links in
      let inside : k < n = omega (arith, below, length-range_with_len (first_link d s) n) in
      let number : slice_index_or (own_links d s) k e ≡ first_link d s + k = get_or-range_with_len (first_link d s) n k e inside in
      let found : link_at d (first_link d s + k) ≡ (s, link_of d s k) = numbered d.sites (length d.sites) s k (length d.sites, no_link) h inside in
      let lawful = (is.sites s no_site h).links k no_link inside in
      subst (λ (l : Link). IsLink (length d.points) (site_at d s) l) (sym (ap (λ (i : ℕ). (link_at d i).1) number ∙ ap (λ (p : ℕ × Link). p.1) found)) lawful

  pub kept_lawful : (r : List Record) → IsDefinition d → s < length d.sites → All IsOwn (kept d r s)
  kept_lawful r is h = kept_all IsOwn r (own_lawful is h)

  module _ (t : TypedTree) (js : List ℕ) (own : All IsOwn js) where
    -- the cache names only declared points
    pub cache_bound : point_bound t.tree ≤ length d.points → point_bound (cached d s t js).tree ≤ length d.points
    cache_bound small =
        let needs : HaveNeedsBelow (length d.points) (map (entry d) js) = All-map (λ (e : PlainEntry). All (λ p. p < length d.points) e.needs) (entry d) js (λ k e below. (own k e below).known) in
        chain_bound (before_key (site_at d s)) t.tree (map (entry d) js) (length d.points) needs small

    -- the cache invokes sites as the tree does
    pub cache_invokes : (l : ℕ) → MayInvokeFrom d.sites l t.tree → MayInvokeFrom d.sites l (cached d s t js).tree
    cache_invokes l may = record {
      types = chain_invokes (IsOfType d.sites) (before_key (site_at d s)) t.tree (map (entry d) js) may.types;
      levels = chain_invokes (IsLower d.sites l) (before_key (site_at d s)) t.tree (map (entry d) js) may.levels;
    }

    have_kind : (q : ℕ) → (site_at d s).key ≡ Some q → HaveKind (kind_at (site_at d s).method_type.parameters q) (map (entry d) js)
    have_kind q is_key =
        All-map (λ (e : PlainEntry). kind_of e.key ≡ kind_at (site_at d s).method_type.parameters q) (entry d) js
        (λ k e below.
        let key = (own k e below).key in
        let same : key.place ≡ q = let a = key.is in cc in
        key.kind ∙ ap (kind_at (site_at d s).method_type.parameters) same)

    -- the cache means what the tree means
    pub cache_mean : (v : Environment) (a : List Value) → IsDefinition d → s < length d.sites → IsTyped t.tree (site_at d s).method_type → Fits (site_at d s).method_type a
        → mean v (cached d s t js).tree a ≡ mean v t.tree a
    cache_mean v a is h typed fits = by_key (site_at d s).key refl
      where
        by_key : (key : Option ℕ) → (site_at d s).key ≡ key → mean v (cached d s t js).tree a ≡ mean v t.tree a
        by_key (Some q) e =
            let x = site_at d s in
            let inside : q < length x.method_type.parameters = (is.sites s no_site h).place q e in
            rw (before_some x q e) ((chain_faithful x.method_type q inside (few_parameters t.tree x.method_type typed) t.tree typed (map (entry d) js) (have_kind q e)).same v a fits)
        by_key None e = no_links js own
          where
            no_links : (ks : List ℕ) → All IsOwn ks → mean v (cached d s t ks).tree a ≡ mean v t.tree a
            no_links [] all = refl
            no_links (k ∷ ks) all = let key = (all 0 k (omega arith)).key in absurd (none-some key.place (sym e ∙ key.is))
