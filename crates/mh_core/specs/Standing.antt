-- Worlds whose trees calls can run.
use Rattle.std.specs.Prelude.{◌≡◌, ℕ, ◌<◌, ◌≤◌, List, length}
use Rattle.mh_type.specs.declared.value.Value.{Value}
use Rattle.mh_type.specs.Fits.{Fits}
use Rattle.mh_tree.specs.Limits.{greatest_level, point_bound}
use Rattle.mh_tree.specs.Meaning.{mean}
use Rattle.mh_tree.specs.Typing.{IsTyped}
use Rattle.mh_site.specs.Defined.{DefinitionData, site_at}
use Rattle.mh_site.specs.Lawful.{MayInvokeFrom}
use Rattle.mh_site.specs.Worlds.{WorldState, state_at}
use Rattle.mh_tree.specs.Environment.{Environment}

-- a site's level is at most 3, its trees have its type, name only declared points and invoke lower sites with their types, and the linked
-- tree is faithful to the base tree: whichever points are valid, and whatever sites return, both have the same outcome on all arguments
pub record IsStanding (d : DefinitionData) (w : WorldState) (s : ℕ) : Type 0 where
  pub base_type : (state_at w s).base.signature ≡ (site_at d s).method_type
  pub linked_type : (state_at w s).linked.signature ≡ (site_at d s).method_type
  pub base_points : point_bound (state_at w s).base.tree ≤ length d.points
  pub linked_points : point_bound (state_at w s).linked.tree ≤ length d.points
  pub low : (site_at d s).level ≤ greatest_level
  pub base_invokes : MayInvokeFrom d.sites (site_at d s).level (state_at w s).base.tree
  pub linked_invokes : MayInvokeFrom d.sites (site_at d s).level (state_at w s).linked.tree
  pub faithful : IsTyped (state_at w s).base.tree (site_at d s).method_type → (v : Environment) → (a : List Value) → Fits (site_at d s).method_type a
      → mean v (state_at w s).linked.tree a ≡ mean v (state_at w s).base.tree a

abbrev pub AreStanding : DefinitionData → WorldState → Type 0
AreStanding d w = (s : ℕ) → s < length d.sites → IsStanding d w s

-- a world of the definition: it has the definition's sites and points, and calls can run its trees
pub record IsWorldOf (d : DefinitionData) (w : WorldState) : Type 0 where
  pub sites : length w.sites ≡ length d.sites
  pub points : length w.valid ≡ length d.points
  pub standing : AreStanding d w
