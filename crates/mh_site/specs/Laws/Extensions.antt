-- In a definition with more points and sites, the earlier ones keep their numbers, and so do their links.
use Rattle.std.proofs.Common.{◌≡◌, ℕ, zero, suc, ◌+◌, ◌<◌, ◌≤◌, ◌-◌, List, [], ◌++◌, length, map, take, refl, ap, sym, ◌∙◌, arith, slice_index_or}
use Rattle.std.proofs.Math.Seq.{take-append_seam}
use Rattle.std.proofs.lemmas.List.{append-nil, append_assoc, get_or_append_left, length-append}
use Rattle.mh_tree.specs.Handle.{TypedTree}
use Rattle.mh_site.specs.declared.link.Link.{Link}
use Rattle.mh_site.specs.declared.point.Point.{Point}
use Rattle.mh_site.specs.declared.site.Site.{Site}
use Rattle.mh_site.specs.Defined.{DefinitionData, no_site, site_at}
use Rattle.mh_site.specs.Definitions.{site_in_order}
use Rattle.mh_site.specs.Extensions.{extended}
use Rattle.mh_site.specs.Links.{links, links_at, links_before}
use Rattle.mh_site.specs.Targets.{target_at, with_target, with_targets}
use Rattle.mh_site.specs.Laws.Targets.{links_kept, site_kept, sites_kept}

-- the links of the first sites do not depend on later sites
before_stays : (sites more : List Site) (n : ℕ) → n ≤ length sites → links_before (sites ++ more) n ≡ links_before sites n
before_stays sites more zero h = refl
before_stays sites more (suc n) h =
    ap (λ (before : List (ℕ × Link)). before ++ links_at (sites ++ more) n) (before_stays sites more n (omega arith))
    ∙ ap (λ (s : Site). links_before sites n ++ map (λ x. (n, x)) s.links) (get_or_append_left sites more no_site n (omega arith))

-- the links of more sites begin with those of fewer
record Begins (sites : List Site) (n m : ℕ) : Type 0 where
  pub rest : List (ℕ × Link)
  pub is : links_before sites m ≡ links_before sites n ++ rest

begins : (sites : List Site) (n k : ℕ) → Begins sites n (n + k)
begins sites n zero =
    let same : n + zero ≡ n = omega arith in
    record { rest = []; is = ap (links_before sites) same ∙ sym (append-nil (links_before sites n)) }
begins sites n (suc k) =
    let before = begins sites n k in
    let more = links_at sites (n + k) in
    let next : n + suc k ≡ suc (n + k) = omega arith in
    record {
      rest = before.rest ++ more;
      is = ap (links_before sites) next ∙ (ap (λ (l : List (ℕ × Link)). l ++ more) before.is ∙ append_assoc (links_before sites n) before.rest more);
    }

pub links_first : (sites : List Site) (n m : ℕ) → n ≤ m → take (length (links_before sites n)) (links_before sites m) ≡ links_before sites n
links_first sites n m h =
    let b = begins sites n (m - n) in
    let whole : m ≡ n + (m - n) = omega (arith, h) in
    ap (λ (k : ℕ). take (length (links_before sites n)) (links_before sites k)) whole
    ∙ (ap (take (length (links_before sites n))) b.is ∙ take-append_seam (links_before sites n) b.rest)

module _ (d : DefinitionData) (targets : List TypedTree) (points : List Point) (sites : List Site) where
  abbrev own : List Site
  own = (with_targets d targets).sites

  abbrev new : List Site
  new = map site_in_order sites

  -- the earlier links come first
  pub links_stay : take (length (links d)) (links (extended d targets points sites)) ≡ links d
  links_stay =
      let n = length own in
      let same : links_before (own ++ new) n ≡ links d = before_stays own new n (omega arith) ∙ links_kept d targets in
      let first = links_first (own ++ new) n (length (own ++ new)) (omega (arith, length-append own new)) in
      ap (λ (l : List (ℕ × Link)). take (length l) (links (extended d targets points sites))) (sym same) ∙ (first ∙ same)

  -- an earlier site has its new target, and is otherwise unchanged
  pub site_stays : (s : ℕ) → s < length d.sites → site_at (extended d targets points sites) s ≡ with_target (site_at d s) (target_at targets s)
  site_stays s h = get_or_append_left own new no_site s (omega (arith, h, sites_kept d targets)) ∙ site_kept d targets s h

  pub sites_longer : length d.sites ≤ length (extended d targets points sites).sites
  sites_longer = let all = length-append own new in let kept = sites_kept d targets in omega (arith, all, kept)
