-- A definition with other targets is lawful, and its points, sites and links are the same as before.
use Rattle.std.proofs.Common.{◌≡◌, ℕ, zero, suc, ◌+◌, ◌<◌, ◌≤◌, List, [], ◌∷◌, ◌++◌, length, map, refl, ap, sym, subst, ◌∙◌, arith, slice_index_or}
use Rattle.std.specs.List.{range_with_len}
use Rattle.std.proofs.lemmas.List.{ext_get_or, get_or-map, length-map}
use Rattle.std.proofs.lemmas.List.FromFn.{get_or-map-range_with_len, length-map-range_with_len}
use Rattle.mh_type.specs.Signature.{Signature}
use Rattle.mh_tree.specs.Handle.{TypedTree}
use Rattle.mh_tree.specs.Tree.{Tree}
use Rattle.mh_tree.specs.Laws.{each_map}
use Rattle.mh_site.specs.declared.site.Site.{Site}
use Rattle.mh_site.specs.declared.link.Link.{Link}
use Rattle.mh_site.specs.declared.version.Version.TheVariants.{Two}
use Rattle.mh_site.specs.Defined.{DefinitionData, site_at, no_site}
use Rattle.mh_site.specs.Invoking.{IsLower, IsOfType}
use Rattle.mh_site.specs.Lawful.{AreDistinct, IsDefinition, IsLink, IsSite, MayInvokeFrom}
use Rattle.mh_site.specs.Limits.{most_sites}
use Rattle.mh_site.specs.Links.{links, links_at, links_before}
use Rattle.mh_site.specs.Targets.{AreTargets, MayRun, target_at, with_target, with_targets}

abbrev made : DefinitionData → List TypedTree → ℕ → Site
made d ts s = with_target (site_at d s) (target_at ts s)

pub sites_kept : (d : DefinitionData) (ts : List TypedTree) → length (with_targets d ts).sites ≡ length d.sites
sites_kept d ts = length-map-range_with_len (made d ts) 0 (length d.sites)

pub site_kept : (d : DefinitionData) (ts : List TypedTree) (s : ℕ) → s < length d.sites → site_at (with_targets d ts) s ≡ with_target (site_at d s) (target_at ts s)
site_kept d ts s h = get_or-map-range_with_len (made d ts) 0 (length d.sites) s s no_site h (omega arith)

link_kept : (n : ℕ) (y : Site) (t : TypedTree) (x : Link) → IsLink n y x → IsLink n (with_target y t) x
link_kept n y t x is = record {
  few = is.few;
  light = is.light;
  cheap = is.cheap;
  known = is.known;
  ascending = is.ascending;
  key = record { place = is.key.place; is = is.key.is; inside = is.key.inside; kind = is.key.kind };
}

site_lawful : (d : DefinitionData) (ts : List TypedTree) (s : ℕ) → IsSite (length d.points) (site_at d s) → MayRun d s (target_at ts s) → IsSite (length d.points) (made d ts s)
site_lawful d ts s is may = record {
  name = is.name;
  few = is.few;
  place = is.place;
  links = λ k x h. link_kept (length d.points) (site_at d s) (target_at ts s) (slice_index_or (site_at d s).links k x) (is.links k x h);
  keys = is.keys;
  known = may.known;
  typed = may.typed;
  low = is.low;
}

type_kept : (d : DefinitionData) (ts : List TypedTree) (s : ℕ) (m : Signature) → IsOfType d.sites s m → IsOfType (with_targets d ts).sites s m
type_kept d ts s m is = record {
  known = omega (arith, sites_kept d ts, is.known);
  same = is.same ∙ sym (ap (λ x. x.method_type) (site_kept d ts s is.known));
}

lower_kept : (d : DefinitionData) (ts : List TypedTree) (level s : ℕ) (m : Signature) → IsLower d.sites level s m → IsLower (with_targets d ts).sites level s m
lower_kept d ts level s m is = record {
  known = omega (arith, sites_kept d ts, is.known);
  lower = subst (λ x. x.level < level) (sym (site_kept d ts s is.known)) is.lower;
}

invokes_kept : (d : DefinitionData) (ts : List TypedTree) (level : ℕ) (t : Tree) → MayInvokeFrom d.sites level t → MayInvokeFrom (with_targets d ts).sites level t
invokes_kept d ts level t may = record {
  types = each_map (IsOfType d.sites) (IsOfType (with_targets d ts).sites) (type_kept d ts) t may.types;
  levels = each_map (IsLower d.sites level) (IsLower (with_targets d ts).sites level) (lower_kept d ts level) t may.levels;
}

names_kept : (d : DefinitionData) (ts : List TypedTree) → map (λ s. s.name) (with_targets d ts).sites ≡ map (λ s. s.name) d.sites
names_kept d ts =
    let sites = (with_targets d ts).sites in
    ext_get_or [] (map (λ s. s.name) sites) (map (λ s. s.name) d.sites)
    (length-map sites (λ s. s.name) ∙ (sites_kept d ts ∙ sym (length-map d.sites (λ s. s.name))))
    (λ s within.
    let inside : s < length d.sites = omega (arith, length-map sites (λ (x : Site). x.name), sites_kept d ts) in
    let there : s < length sites = omega (arith, sites_kept d ts) in
    get_or-map (λ x. x.name) sites s no_site [] there ∙ (ap (λ x. x.name) (site_kept d ts s inside) ∙ sym (get_or-map (λ x. x.name) d.sites s no_site [] inside)))

pub with_targets_lawful : (d : DefinitionData) (ts : List TypedTree) → IsDefinition d → AreTargets d ts → IsDefinition (with_targets d ts)
with_targets_lawful d ts is are =
    let n = length d.sites in
    record {
      few_points = is.few_points;
      few_sites = subst (λ k. k ≤ most_sites Two) (sym (sites_kept d ts)) is.few_sites;
      point_names = is.point_names;
      site_names = subst AreDistinct (sym (names_kept d ts)) is.site_names;
      points = is.points;
      sites = λ s x h.
          let inside : s < n = omega (arith, sites_kept d ts) in
          subst (IsSite (length d.points)) (sym (get_or-map-range_with_len (made d ts) 0 n s s x inside (omega arith)))
          (site_lawful d ts s (is.sites s no_site inside) (are.each s inside));
      invokes = λ s x h.
          let inside : s < n = omega (arith, sites_kept d ts) in
          subst (λ (y : Site). MayInvokeFrom (with_targets d ts).sites y.level y.target.tree) (sym (get_or-map-range_with_len (made d ts) 0 n s s x inside (omega arith)))
          (invokes_kept d ts (site_at d s).level (target_at ts s).tree (are.each s inside).invokes);
    }

before_kept : (d : DefinitionData) (ts : List TypedTree) (n : ℕ) → n ≤ length d.sites → links_before (with_targets d ts).sites n ≡ links_before d.sites n
before_kept d ts zero h = refl
before_kept d ts (suc n) h =
    let inside : n < length d.sites = omega arith in
    ap (λ before. before ++ links_at (with_targets d ts).sites n) (before_kept d ts n (omega arith))
    ∙ ap (λ (y : Site). links_before d.sites n ++ map (λ x. (n, x)) y.links) (site_kept d ts n inside)

pub links_kept : (d : DefinitionData) (ts : List TypedTree) → links (with_targets d ts) ≡ links d
links_kept d ts = ap (links_before (with_targets d ts).sites) (sites_kept d ts) ∙ before_kept d ts (length d.sites) (omega arith)
