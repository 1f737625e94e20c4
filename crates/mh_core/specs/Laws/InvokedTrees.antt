-- Worlds whose trees calls can run satisfy the conditions of calls of their linked trees, which return what the base trees mean.
use Rattle.std.proofs.Common.{◌≡◌, ℕ, suc, ◌<◌, ◌≤◌, List, length, map, sym, subst, ap, ◌∙◌, arith}
use Rattle.std.specs.List.{All}
use Rattle.std.proofs.lemmas.List.{get_or-map, get_or_default, length-map}
use Rattle.std.proofs.lemmas.List.Elements.{All-map}
use Rattle.mh_type.specs.declared.value.Value.{Value}
use Rattle.mh_type.specs.Fits.{Fits}
use Rattle.mh_type.specs.Signature.{Signature}
use Rattle.mh_tree.specs.Handle.{TypedTree}
use Rattle.mh_tree.specs.Limits.{greatest_level, point_bound}
use Rattle.mh_tree.specs.Meaning.{mean}
use Rattle.mh_tree.specs.Sites.{HavePoints, InvokesBelow, IsLawful, MayInvoke, level_at, target_at}
use Rattle.mh_tree.specs.Tree.{Tree}
use Rattle.mh_tree.specs.Typing.{IsTyped}
use Rattle.mh_tree.specs.Laws.{each_both, each_map}
use Rattle.mh_pic.specs.Chains.{AreFaithful}
use Rattle.mh_pic.specs.Laws.{faithful_means}
use Rattle.mh_site.specs.declared.site.Site.{Site}
use Rattle.mh_site.specs.Defined.{DefinitionData, no_site, site_at}
use Rattle.mh_site.specs.Invoking.{IsLower, IsOfType}
use Rattle.mh_site.specs.Lawful.{MayInvokeFrom}
use Rattle.mh_site.specs.Worlds.{AreTyped, SiteState, WorldState, bases, environment_of_bases, environment_of_links, linkeds, no_state, state_at}
use Rattle.mh_core.specs.Standing.{AreStanding}

-- the level of each site, by number
abbrev pub levels_of : DefinitionData → List ℕ
levels_of d = map (λ (s : Site). s.level) d.sites

module _ (d : DefinitionData) (few : (s : ℕ) → s < length d.sites → (site_at d s).level ≤ greatest_level) where
  level_is : (s : ℕ) → s < length d.sites → level_at (levels_of d) s ≡ (site_at d s).level
  level_is s h = get_or-map (λ (x : Site). x.level) d.sites s no_site 0 h

  low : All (λ l. l ≤ greatest_level) (levels_of d)
  low = All-map (λ l. l ≤ greatest_level) (λ (x : Site). x.level) d.sites (λ k e h. subst (λ (x : Site). x.level ≤ greatest_level) (get_or_default d.sites k no_site e h) (few k h))

  module _ (trees : List TypedTree) (many : length trees ≡ length d.sites) (types : (s : ℕ) → s < length d.sites → (target_at trees s).signature ≡ (site_at d s).method_type) where
    may : (l s : ℕ) (n : Signature) → IsOfType d.sites s n × IsLower d.sites l s n → MayInvoke (levels_of d) trees l s n
    may l s n h = record {
      known = omega (arith, h.0.known, many);
      levelled = omega (arith, h.0.known, length-map d.sites (λ (x : Site). x.level));
      lower = omega (arith, level_is s h.0.known, h.1.lower);
      same = h.0.same ∙ sym (types s h.0.known);
    }

    invokes : (l : ℕ) (t : Tree) → MayInvokeFrom d.sites l t → InvokesBelow (levels_of d) trees l t
    invokes l t h = each_map (λ s n. IsOfType d.sites s n × IsLower d.sites l s n) (MayInvoke (levels_of d) trees l) (may l) t (each_both (IsOfType d.sites) (IsLower d.sites l) t h.types h.levels)

    raised : (l : ℕ) (t : Tree) → l ≤ greatest_level → InvokesBelow (levels_of d) trees l t → InvokesBelow (levels_of d) trees (suc greatest_level) t
    raised l t most h =
        each_map (MayInvoke (levels_of d) trees l) (MayInvoke (levels_of d) trees (suc greatest_level))
        (λ s n m. record { known = m.known; levelled = m.levelled; lower = omega (arith, m.lower); same = m.same }) t h

    module _ (typed : (s : ℕ) → s < length d.sites → IsTyped (target_at trees s).tree (target_at trees s).signature)
        (own : (s : ℕ) → s < length d.sites → MayInvokeFrom d.sites (site_at d s).level (target_at trees s).tree) where
      lower : (s : ℕ) → s < length trees → InvokesBelow (levels_of d) trees (level_at (levels_of d) s) (target_at trees s).tree
      lower s h =
          let inside : s < length d.sites = omega (arith, many) in
          subst (λ l. InvokesBelow (levels_of d) trees l (target_at trees s).tree) (sym (level_is s inside)) (invokes (site_at d s).level (target_at trees s).tree (own s inside))

      here : (s : ℕ) (t : Tree) → s < length d.sites → MayInvokeFrom d.sites (site_at d s).level t → InvokesBelow (levels_of d) trees (suc greatest_level) t
      here s t inside h = raised (site_at d s).level t (few s inside) (invokes (site_at d s).level t h)

      lawful : (s : ℕ) (t : Tree) → s < length d.sites → MayInvokeFrom d.sites (site_at d s).level t → IsLawful (levels_of d) trees t
      lawful s t inside h = record {
        few = low;
        typed = λ k below. typed k (omega (arith, many));
        lower = lower;
        here = here s t inside h;
      }

module _ (d : DefinitionData) (w : WorldState) (standing : AreStanding d w) (typed : AreTyped w.sites) (many : length w.sites ≡ length d.sites) where
  few_levels : (s : ℕ) → s < length d.sites → (site_at d s).level ≤ greatest_level
  few_levels s h = (standing s h).low

  base_at : (s : ℕ) → s < length d.sites → target_at (bases w) s ≡ (state_at w s).base
  base_at s h = get_or-map (λ (x : SiteState). x.base) w.sites s no_state _ (omega (arith, many))

  linked_at : (s : ℕ) → s < length d.sites → target_at (linkeds w) s ≡ (state_at w s).linked
  linked_at s h = get_or-map (λ (x : SiteState). x.linked) w.sites s no_state _ (omega (arith, many))

  abbrev IsTypedTree : TypedTree → Type 0
  IsTypedTree t = IsTyped t.tree t.signature

  base_typed : (s : ℕ) → s < length d.sites → IsTypedTree (target_at (bases w) s)
  base_typed s h = subst IsTypedTree (sym (base_at s h)) (typed s no_state (omega (arith, many))).0

  linked_typed : (s : ℕ) → s < length d.sites → IsTypedTree (target_at (linkeds w) s)
  linked_typed s h = subst IsTypedTree (sym (linked_at s h)) (typed s no_state (omega (arith, many))).1

  base_signature : (s : ℕ) → s < length d.sites → (target_at (bases w) s).signature ≡ (site_at d s).method_type
  base_signature s h = ap (λ (t : TypedTree). t.signature) (base_at s h) ∙ (standing s h).base_type

  linked_signature : (s : ℕ) → s < length d.sites → (target_at (linkeds w) s).signature ≡ (site_at d s).method_type
  linked_signature s h = ap (λ (t : TypedTree). t.signature) (linked_at s h) ∙ (standing s h).linked_type

  base_own : (s : ℕ) → s < length d.sites → MayInvokeFrom d.sites (site_at d s).level (target_at (bases w) s).tree
  base_own s h = subst (λ (t : TypedTree). MayInvokeFrom d.sites (site_at d s).level t.tree) (sym (base_at s h)) (standing s h).base_invokes

  linked_own : (s : ℕ) → s < length d.sites → MayInvokeFrom d.sites (site_at d s).level (target_at (linkeds w) s).tree
  linked_own s h = subst (λ (t : TypedTree). MayInvokeFrom d.sites (site_at d s).level t.tree) (sym (linked_at s h)) (standing s h).linked_invokes

  -- calls of a linked tree over the linked trees are lawful
  pub links_lawful : (s : ℕ) → s < length d.sites → IsLawful (levels_of d) (linkeds w) (state_at w s).linked.tree
  links_lawful s h =
      lawful d few_levels (linkeds w) (length-map w.sites (λ x. x.linked) ∙ many) linked_signature linked_typed linked_own s (state_at w s).linked.tree h (standing s h).linked_invokes

  -- and they name only known points
  pub links_known : length w.valid ≡ length d.points → HavePoints (length w.valid) (linkeds w)
  links_known count =
      All-map (λ (t : TypedTree). point_bound t.tree ≤ length w.valid) (λ (x : SiteState). x.linked) w.sites
      (λ k e h. let known = (standing k (omega (arith, many))).linked_points in
      subst (λ (x : SiteState). point_bound x.linked.tree ≤ length w.valid) (get_or_default w.sites k no_state e h) (omega (arith, known, count)))

  faithful : AreFaithful (linkeds w) (bases w)
  faithful s below =
      let h : s < length d.sites = omega (arith, many, length-map w.sites (λ (x : SiteState). x.base)) in
      let m = (target_at (bases w) s).signature in
      let same : (target_at (linkeds w) s).signature ≡ m = linked_signature s h ∙ sym (base_signature s h) in
      record {
        typed = subst (IsTyped (target_at (linkeds w) s).tree) same (linked_typed s h);
        same = λ v a fits.
            let own : IsTyped (state_at w s).base.tree (site_at d s).method_type = subst (IsTyped (state_at w s).base.tree) (standing s h).base_type (typed s no_state (omega (arith, many))).0 in
            ap (λ (t : TypedTree). mean v t.tree a) (linked_at s h)
            ∙ ((standing s h).faithful own v a (subst (λ (n : Signature). Fits n a) (base_signature s h) fits) ∙ sym (ap (λ (t : TypedTree). mean v t.tree a) (base_at s h)));
      }

  -- a linked tree, run over the linked trees, returns what the base tree means over the base trees
  pub links_mean : (s : ℕ) (a : List Value) → s < length d.sites → Fits (site_at d s).method_type a
      → mean (environment_of_links w) (state_at w s).linked.tree a ≡ mean (environment_of_bases w) (state_at w s).base.tree a
  links_mean s a h fits =
      let own : IsTyped (state_at w s).base.tree (site_at d s).method_type = subst (IsTyped (state_at w s).base.tree) (standing s h).base_type (typed s no_state (omega (arith, many))).0 in
      let long = length-map w.sites (λ (x : SiteState). x.base) ∙ many in
      (standing s h).faithful own (environment_of_links w) a fits
      ∙ faithful_means w.valid (levels_of d) (linkeds w) (bases w) faithful (λ k below. base_typed k (omega (arith, long))) (lower d few_levels (bases w) long base_signature base_typed base_own)
      (state_at w s).base.tree (site_at d s).method_type own (here d few_levels (bases w) long base_signature base_typed base_own s (state_at w s).base.tree h (standing s h).base_invokes) a fits
