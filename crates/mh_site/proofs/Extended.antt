-- What a definition with more points and sites keeps.
use Rattle.std.proofs.Common.{◌≡◌, ℕ, zero, suc, ◌<◌, List, [], ◌∷◌, ◌++◌, Ok, Result, length, map, refl, ap, sym, ◌∙◌, arith, slice_index_or}
use Rattle.std.specs.List.{All}
use Rattle.std.proofs.lemmas.List.{map-append}
use Rattle.mh_base.specs.Laws.{made_is}
use Rattle.mh_tree.specs.Handle.{TypedTree}
use Rattle.mh_site.specs.Ascending.{ascending}
use Rattle.mh_site.specs.declared.fault.DefinitionFault.{DefinitionFault}
use Rattle.mh_site.specs.declared.link.Link.{Link}
use Rattle.mh_site.specs.declared.point.Point.{Point}
use Rattle.mh_site.specs.declared.site.Site.{Site}
use Rattle.mh_site.specs.declared.version.Version.TheVariants.{Two}
use Rattle.mh_site.specs.Defined.{DefinitionData}
use Rattle.mh_site.specs.Definitions.{definition_fault, definition_made, link_in_order, site_in_order}
use Rattle.mh_site.specs.Extensions.{extended, longer_sites}
use Rattle.mh_site.specs.Lawful.{IsDefinition, IsLink, IsSite}
use Rattle.mh_site.specs.Targets.{AreTargets, with_targets}
use Rattle.mh_site.specs.Laws.Targets.{with_targets_lawful}
use Rattle.mh_site.proofs.Sorting.{ascending-same}

-- parts whose needs rise are in order
ordered_links : (n : ℕ) (s : Site) (ls : List Link) → All (IsLink n s) ls → map link_in_order ls ≡ ls
ordered_links n s [] are = refl
ordered_links n s (l ∷ ls) are =
    let needs : ascending l.needs ≡ l.needs = ascending-same l.needs (are zero l (omega arith)).ascending in
    ap (λ (ns : List ℕ). record { when = l.when; weight = l.weight; charge = l.charge; needs = ns } ∷ map link_in_order ls) needs
    ∙ ap (λ (rest : List Link). l ∷ rest) (ordered_links n s ls (λ k x h. are (suc k) x (omega arith)))

ordered_sites : (n : ℕ) (ss : List Site) → All (IsSite n) ss → map site_in_order ss ≡ ss
ordered_sites n [] are = refl
ordered_sites n (s ∷ ss) are =
    ap (λ (ls : List Link). record { name = s.name; method_type = s.method_type; level = s.level; key = s.key; target = s.target; links = ls } ∷ map site_in_order ss)
    (ordered_links n s s.links (are zero s (omega arith)).links)
    ∙ ap (λ (rest : List Site). s ∷ rest) (ordered_sites n ss (λ k x h. are (suc k) x (omega arith)))

abbrev of_parts : List Point → List Site → DefinitionData
of_parts points sites = record { points = points; sites = sites }

-- what the parts make is the longer definition
pub made_extended : (d e : DefinitionData) (targets : List TypedTree) (points all : List Point) (sites longer : List Site) → IsDefinition d → AreTargets d targets
    → all ≡ d.points ++ points → longer ≡ longer_sites d targets sites → definition_made Two all longer ≡ Ok e → e ≡ extended d targets points sites
made_extended d e targets points all sites longer is are joined own made =
    let old : List Site = (with_targets d targets).sites in
    let parts : of_parts all (map site_in_order longer) ≡ e = made_is (of_parts all (map site_in_order longer)) e (definition_fault Two all longer) made in
    let kept : map site_in_order old ≡ old = ordered_sites (length d.points) old (with_targets_lawful d targets is are).sites in
    let order : map site_in_order longer ≡ old ++ map site_in_order sites =
    ap (map site_in_order) own ∙ (map-append site_in_order old sites ∙ ap (λ (ss : List Site). ss ++ map site_in_order sites) kept) in
    sym parts ∙ (ap (λ (ps : List Point). of_parts ps (map site_in_order longer)) joined ∙ ap (of_parts (d.points ++ points)) order)
