-- Replacing the targets of the sites of a definition.
use Rattle.std.specs.Prelude.{◌≡◌, ◌≤◌, ◌<◌, ℕ, List, length, map, slice_index_or}
use Rattle.std.specs.List.{range_with_len}
use Rattle.mh_tree.specs.Handle.{TypedTree}
use Rattle.mh_tree.specs.Limits.{point_bound}
use Rattle.mh_site.specs.declared.site.Site.{Site}
use Rattle.mh_site.specs.Defined.{DefinitionData, no_tree, site_at}
use Rattle.mh_site.specs.Lawful.{MayInvokeFrom}

-- a tree that a site may run: of its type, with points that exist, and invocations of lower sites with their types
pub record MayRun (d : DefinitionData) (s : ℕ) (t : TypedTree) : Type 0 where
  pub typed : t.signature ≡ (site_at d s).method_type
  pub known : point_bound t.tree ≤ length d.points
  pub invokes : MayInvokeFrom d.sites (site_at d s).level t.tree

abbrev pub target_at : List TypedTree → ℕ → TypedTree
target_at targets s = slice_index_or targets s no_tree

-- a tree for each site, which it may run
pub record AreTargets (d : DefinitionData) (targets : List TypedTree) : Type 0 where
  pub count : length targets ≡ length d.sites
  pub each : (s : ℕ) → s < length d.sites → MayRun d s (target_at targets s)

-- the rest of a site is unchanged
abbrev pub with_target : Site → TypedTree → Site
with_target x t = record { name = x.name; method_type = x.method_type; level = x.level; key = x.key; target = t; links = x.links }

abbrev pub with_targets : DefinitionData → List TypedTree → DefinitionData
with_targets d targets = record { points = d.points; sites = map (λ s. with_target (site_at d s) (target_at targets s)) (range_with_len 0 (length d.sites)) }
