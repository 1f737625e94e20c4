-- Facts that an extension preserves.
use Rattle.std.proofs.Common.{◌≡◌, ℕ, zero, suc, ◌+◌, ◌<◌, ◌≤◌, ◌==◌, Bool, true, false, List, [], ◌∷◌, ◌++◌, length, map, filter, not, ◌&&◌, take, refl, ap, sym, subst, ◌∙◌, arith}
use Rattle.std.specs.List.{range_with_len}
use Rattle.std.proofs.lemmas.List.{length-append, length-take}
use Rattle.std.proofs.lemmas.List.FromFn.{get_or-map-range_with_len, length-map-range_with_len}
use Rattle.std.proofs.lemmas.Bool.Decides.{nat_tests}
use Rattle.mh_type.specs.declared.value.Value.{Value}
use Rattle.mh_tree.specs.Handle.{TypedTree}
use Rattle.mh_tree.specs.Limits.{point_bound, site_bound}
use Rattle.mh_tree.specs.Meaning.{mean}
use Rattle.mh_tree.specs.Sites.{target_at}
use Rattle.mh_tree.specs.Tree.{Tree}
use Rattle.mh_tree.specs.Laws.{IsBelow, below_bounds, each_map}
use Rattle.mh_site.specs.declared.point.Point.{Point}
use Rattle.mh_site.specs.declared.site.Site.{Site}
use Rattle.mh_site.specs.Defined.{DefinitionData, no_tree, site_at}
use Rattle.mh_site.specs.Invoking.{InvokesOfType, IsOfType}
use Rattle.mh_site.specs.Lawful.{IsDefinition, MayInvokeFrom}
use Rattle.mh_site.specs.Links.{links}
use Rattle.mh_site.specs.LookBack as look
use Rattle.mh_site.specs.LookBack.{member}
use Rattle.mh_site.specs.Laws as laws
use Rattle.mh_site.specs.Targets.{AreTargets, target_at as given_target}
use Rattle.mh_site.specs.declared.control.Control.{Control}
use Rattle.mh_site.specs.declared.control.Control.TheVariants as control
use Rattle.mh_core.specs.declared.record.Record.{Record}
use Rattle.mh_core.specs.declared.record.Record.TheVariants.{Invalidated}
use Rattle.mh_core.specs.Books.{BookState, Legal}
use Rattle.mh_core.specs.Extensions.{GoesOn, IsLonger, extended_records, extension, invalid_points}
use Rattle.mh_core.specs.Limits.{LimitsData}
use Rattle.mh_core.specs.Records.{base, bases, environment_of_bases, is_valid, plain_controls, valid_points}
use Rattle.mh_core.specs.Laws.MoreSites.{SamePoints, StayWithin, mean_among}
use Rattle.mh_core.specs.Laws.Renewing.{absent_cond, among, plain_carried, twice}
use Rattle.mh_core.specs.Laws.Worlds.{base_suits}

-- a number past a range is not among the numbers filtered from it
absent_past : (f : ℕ → Bool) (a n p : ℕ) → a + n ≤ p → member (filter f (range_with_len a n)) p ≡ false
absent_past f a zero p h = refl
absent_past f a (suc n) p h = absent_cond (f a) a p (filter f (range_with_len (a + 1) n)) (grind (arith, nat_tests)) (absent_past f (a + 1) n p (omega arith))

-- a tree that invokes known sites names none past the last
within_sites : (sites : List Site) (t : Tree) → InvokesOfType sites t → site_bound t ≤ length sites
within_sites sites t types = below_bounds (length sites) t (each_map (IsOfType sites) (IsBelow (length sites)) (λ s m is. is.known) t types)

-- each site may run its base tree
pub own_targets : (d : DefinitionData) (r : List Record) (l : LimitsData) → IsDefinition d → Legal d l r → AreTargets d (bases d r)
own_targets d r l is legal = record {
  count = length-map-range_with_len (base d r) 0 (length d.sites);
  each = λ s h.
      let suits = base_suits d l r s is h legal in
      let same : base d r s ≡ given_target (bases d r) s = sym (get_or-map-range_with_len (base d r) 0 (length d.sites) s s no_tree h (omega arith)) in
      record {
        typed = ap (λ (t : TypedTree). t.signature) (sym same) ∙ suits.signature;
        known = subst (λ (t : TypedTree). point_bound t.tree ≤ length d.points) same suits.points;
        invokes = subst (λ (t : TypedTree). MayInvokeFrom d.sites (site_at d s).level t.tree) same suits.invokes;
      };
}

-- the longer definition has at least as many points and links
pub extension_longer : (d : DefinitionData) (r : List Record) (points : List Point) (sites : List Site) → IsLonger d (extension d r points sites)
extension_longer d r points sites =
    let now : DefinitionData = extension d r points sites in
    let first : length (take (length (links d)) (links now)) ≡ length (links d) = ap length (laws.links_stay d (bases d r) points sites) in
    record {
      points = let all = length-append d.points points in omega (arith, all);
      links = let count = length-take (length (links d)) (links now) in omega (arith, first, count);
    }

module _ (d : DefinitionData) (r : List Record) (points : List Point) (sites : List Site) (shares : List (List ℕ)) where
  abbrev now : DefinitionData
  now = extension d r points sites

  abbrev new : List Record
  new = extended_records d r shares

  more_points : length d.points ≤ length now.points
  more_points = let all = length-append d.points points in omega (arith, all)

  more_sites : length d.sites ≤ length now.sites
  more_sites = let all = laws.sites_longer d (bases d r) points sites in all

  plain_new : plain_controls new ≡ control.Invalidate (invalid_points d r) ∷ []
  plain_new = plain_carried (Invalidated (invalid_points d r) ∷ []) shares (length shares)

  own_tree : (s : ℕ) → s < length d.sites → given_target (bases d r) s ≡ base d r s
  own_tree s h = get_or-map-range_with_len (base d r) 0 (length d.sites) s s no_tree h (omega arith)

  base_stays : (s : ℕ) → s < length d.sites → base now new s ≡ base d r s
  base_stays s h = ap (λ (cs : List Control). look.base now cs s) plain_new ∙ (ap (λ x. x.target) (laws.site_stays d (bases d r) points sites s h) ∙ own_tree s h)

  tree_is : (s : ℕ) → s < length d.sites → target_at (bases d r) s ≡ base d r s
  tree_is s h = get_or-map-range_with_len (base d r) 0 (length d.sites) s s _ h (omega arith)

  tree_stays : (s : ℕ) → s < length d.sites → target_at (bases now new) s ≡ target_at (bases d r) s
  tree_stays s h = get_or-map-range_with_len (base now new) 0 (length now.sites) s s _ (omega (arith, h, more_sites)) (omega arith) ∙ (base_stays s h ∙ sym (tree_is s h))

  pub valid_stays : (p : ℕ) → p < length d.points → is_valid new p ≡ is_valid r p
  valid_stays p h =
      ap (λ (cs : List Control). look.is_valid cs p) plain_new
      ∙ (ap (λ (b : Bool). not b && true) (among (λ q. not (is_valid r q)) 0 (length d.points) p (omega arith) (omega arith)) ∙ twice (is_valid r p))

  points_same : SamePoints (length d.points) (valid_points now new) (valid_points d r)
  points_same p h =
      get_or-map-range_with_len (is_valid new) 0 (length now.points) p p false (omega (arith, h, more_points)) (omega arith)
      ∙ (valid_stays p h ∙ sym (get_or-map-range_with_len (is_valid r) 0 (length d.points) p p false h (omega arith)))

  fresh_points : (p : ℕ) → length d.points ≤ p → is_valid new p ≡ true
  fresh_points p h =
      ap (λ (cs : List Control). look.is_valid cs p) plain_new
      ∙ ap (λ (b : Bool). not b && true) (absent_past (λ q. not (is_valid r q)) 0 (length d.points) p (omega arith))

  module _ (l : LimitsData) (is : IsDefinition d) (legal : Legal d l r) where
    own_points : (s : ℕ) → s < length d.sites → point_bound (base d r s).tree ≤ length d.points
    own_points s h = (base_suits d l r s is h legal).points

    own_sites : (s : ℕ) → s < length d.sites → site_bound (base d r s).tree ≤ length d.sites
    own_sites s h = within_sites d.sites (base d r s).tree (base_suits d l r s is h legal).invokes.types

    within : StayWithin (length d.points) (length d.sites) (bases d r)
    within s h =
        let same : base d r s ≡ target_at (bases d r) s = sym (tree_is s h) in
        (subst (λ (t : TypedTree). point_bound t.tree ≤ length d.points) same (own_points s h), subst (λ (t : TypedTree). site_bound t.tree ≤ length d.sites) same (own_sites s h))

    mean_stays : (s : ℕ) (a : List Value) → s < length d.sites → mean (environment_of_bases now new) (base now new s).tree a ≡ mean (environment_of_bases d r) (base d r s).tree a
    mean_stays s a h =
        ap (λ (t : TypedTree). mean (environment_of_bases now new) t.tree a) (base_stays s h)
        ∙ mean_among (length d.points) (length d.sites) (valid_points now new) (valid_points d r) (bases now new) (bases d r) points_same tree_stays within (base d r s).tree (own_points s h) (own_sites s h) a

-- a book that begins a new history over a longer definition
pub goes_on : (b new : BookState) (points : List Point) (sites : List Site) → IsDefinition b.definition → Legal b.definition b.limits b.records
    → new.definition ≡ extension b.definition b.records points sites → new.records ≡ extended_records b.definition b.records b.totals.shares → GoesOn b new
goes_on b new points sites is legal definition records =
    let d : DefinitionData = b.definition in
    let r : List Record = b.records in
    let now : DefinitionData = extension d r points sites in
    record {
      calls = λ s a inside.
          ap (λ (x : DefinitionData). mean (environment_of_bases x new.records) (base x new.records s).tree a) definition
          ∙ (ap (λ (x : List Record). mean (environment_of_bases now x) (base now x s).tree a) records ∙ mean_stays d r points sites b.totals.shares b.limits is legal s a inside);
      valid = λ p inside. ap (λ (x : List Record). is_valid x p) records ∙ valid_stays d r points sites b.totals.shares p inside;
      fresh = λ p past. ap (λ (x : List Record). is_valid x p) records ∙ fresh_points d r points sites b.totals.shares p past;
      links = ap (λ (x : DefinitionData). take (length (links d)) (links x)) definition ∙ laws.links_stay d (bases d r) points sites;
    }
