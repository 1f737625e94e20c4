-- The trees of the world after legal records.
use Rattle.std.proofs.Common.{◌≡◌, ℕ, ◌<◌, ◌≤◌, List, length, sym, subst}
use Rattle.mh_type.specs.declared.value.Value.{Value}
use Rattle.mh_type.specs.Fits.{Fits}
use Rattle.mh_tree.specs.Handle.{TypedTree}
use Rattle.mh_tree.specs.Limits.{point_bound}
use Rattle.mh_tree.specs.Meaning.{mean}
use Rattle.mh_tree.specs.Typing.{IsTyped}
use Rattle.mh_site.specs.Defined.{DefinitionData, no_site, site_at}
use Rattle.mh_site.specs.Lawful.{IsDefinition, MayInvokeFrom}
use Rattle.mh_site.specs.Worlds.{SiteState, state_at}
use Rattle.mh_core.specs.declared.record.Record.{Record}
use Rattle.mh_core.specs.Books.{Legal}
use Rattle.mh_core.specs.Installations.{kept}
use Rattle.mh_core.specs.Limits.{LimitsData}
use Rattle.mh_core.specs.Records.{base}
use Rattle.mh_core.specs.Replayed.{world}
use Rattle.mh_core.specs.Standing.{IsStanding}
use Rattle.mh_core.specs.Laws.Caches.{cache_bound, cache_invokes, cache_mean, kept_lawful}
use Rattle.mh_core.specs.Laws.Worlds.{base_suits, read, site_after}
use Rattle.mh_tree.specs.Environment.{Environment}

-- a fact about a state holds of an equal state
abbrev Stands : DefinitionData → ℕ → SiteState → Type 0
Stands d s x =
    (x.base.signature ≡ (site_at d s).method_type) × (x.linked.signature ≡ (site_at d s).method_type)
    × (point_bound x.base.tree ≤ length d.points) × (point_bound x.linked.tree ≤ length d.points)
    × MayInvokeFrom d.sites (site_at d s).level x.base.tree × MayInvokeFrom d.sites (site_at d s).level x.linked.tree
    × (IsTyped x.base.tree (site_at d s).method_type → (v : Environment) → (a : List Value) → Fits (site_at d s).method_type a → mean v x.linked.tree a ≡ mean v x.base.tree a)

pub stands : (d : DefinitionData) (l : LimitsData) (r : List Record) (s : ℕ) → IsDefinition d → Legal d l r → s < length d.sites → IsStanding d (world d r) s
stands d l r s is legal h =
    let own : TypedTree = base d r s in
    let suits = base_suits d l r s is h legal in
    let links = kept_lawful d s r is h in
    let found : Stands d s (site_after d r s) = (
      suits.signature,
      suits.signature,
      suits.points,
      cache_bound d s own (kept d r s) links suits.points,
      suits.invokes,
      cache_invokes d s own (kept d r s) links (site_at d s).level suits.invokes,
      λ typed v a fits. cache_mean d s own (kept d r s) links v a is h typed fits,
    ) in
    let here : Stands d s (state_at (world d r) s) = subst (Stands d s) (sym (read d r s h)) found in
    record { base_type = here.0; linked_type = here.1; base_points = here.2; linked_points = here.3; low = (is.sites s no_site h).low; base_invokes = here.4; linked_invokes = here.5; faithful = here.6 }
