-- Trees that invoke sites: the sites that a tree may invoke, and the meaning of invocations if each site has a tree.
use Rattle.std.specs.Prelude.{◌≡◌, ℕ, zero, suc, ◌+◌, ◌*◌, ◌<◌, ◌≤◌, Bool, false, List, [], length, slice_index_or}
use Rattle.std.specs.List.{All}
use Rattle.mh_type.specs.declared.kind.Kind.TheVariants as kind
use Rattle.mh_type.specs.declared.value.Value.{Value}
use Rattle.mh_type.specs.declared.value.Value.TheVariants.{Boolean}
use Rattle.mh_type.specs.declared.outcome.Outcome.{Outcome}
use Rattle.mh_type.specs.declared.outcome.Outcome.TheVariants as outcome
use Rattle.mh_type.specs.Signature.{Signature}
use Rattle.mh_tree.specs.Environment.{Environment, Steps}
use Rattle.mh_tree.specs.Handle.{TypedTree}
pub use Rattle.mh_tree.specs.Invocations.{EachInvoke, EachInvokes}
use Rattle.mh_tree.specs.Limits.{point_bound, most_nodes, greatest_level}
use Rattle.mh_tree.specs.Meaning.{mean, steps}
use Rattle.mh_tree.specs.Typing.{IsTyped}
use Rattle.mh_tree.specs.Tree.{Tree, constant}

-- the level of a site, if it has one
abbrev pub level_at : List ℕ → ℕ → ℕ
level_at levels s = slice_index_or levels s 0

-- the tree of a site, if it has one
abbrev pub target_at : List TypedTree → ℕ → TypedTree
target_at targets s = slice_index_or targets s (record { tree = constant (Boolean false); signature = record { ret = kind.Boolean; parameters = [] } })

-- a site whose level is below l, with the type of its tree
pub record MayInvoke (levels : List ℕ) (targets : List TypedTree) (l s : ℕ) (n : Signature) : Type 0 where
  pub known : s < length targets
  pub levelled : s < length levels
  pub lower : level_at levels s < l
  pub same : n ≡ (target_at targets s).signature

-- the tree invokes only sites below level l, with their types
abbrev pub InvokesBelow : List ℕ → List TypedTree → ℕ → Tree → Type 0
InvokesBelow levels targets l t = EachInvoke (MayInvoke levels targets l) t

-- Each site's tree has its type and invokes only sites of lower levels, and the tree any sites, all with their types.
pub record IsLawful (levels : List ℕ) (targets : List TypedTree) (tree : Tree) : Type 0 where
  pub few : All (λ l. l ≤ greatest_level) levels
  pub typed : (s : ℕ) → s < length targets → IsTyped (target_at targets s).tree (target_at targets s).signature
  pub lower : (s : ℕ) → s < length targets → InvokesBelow levels targets (level_at levels s) (target_at targets s).tree
  pub here : InvokesBelow levels targets (suc greatest_level) tree

abbrev mutual
  -- the meaning of an invocation of a site, if those in its tree are less than d trees deep
  pub calls_below : ℕ → List Bool → List TypedTree → ℕ → List Value → Outcome
  calls_below zero valid targets s a = outcome.Value (Boolean false)
  calls_below (suc d) valid targets s a =
      mean (record { valid = valid; calls = calls_below d valid targets; call_steps = steps_below d valid targets }) (target_at targets s).tree a

  -- the steps of the site's tree
  pub steps_below : ℕ → List Bool → List TypedTree → ℕ → List Value → Steps
  steps_below zero valid targets s a = 0
  steps_below (suc d) valid targets s a =
      steps (record { valid = valid; calls = calls_below d valid targets; call_steps = steps_below d valid targets }) (target_at targets s).tree a

-- the environment in which these points are valid and an invocation means the site's tree, for invocations less than d trees deep
abbrev pub below : ℕ → List Bool → List TypedTree → Environment
below d valid targets = record { valid = valid; calls = calls_below d valid targets; call_steps = steps_below d valid targets }

-- The environment in which these points are valid and each site has its tree: an invocation means the tree on the same arguments
-- (`MutableCallSite.dynamicInvoker`). A tree that is lawful is at most five trees deep.
abbrev pub with_sites : List Bool → List TypedTree → Environment
with_sites valid targets = below (suc greatest_level) valid targets

-- a site whose tree exists, has the type n, and names some of k points; so do the trees that it invokes, and they are less than d deep
abbrev pub MayReach : ℕ → List TypedTree → ℕ → ℕ → Signature → Type 0
MayReach zero targets k s n = ⊥
MayReach (suc d) targets k s n =
    (s < length targets) × (n ≡ (target_at targets s).signature) × IsTyped (target_at targets s).tree (target_at targets s).signature
    × (point_bound (target_at targets s).tree ≤ k) × EachInvoke (MayReach d targets k) (target_at targets s).tree

-- a number of arguments for a site of which the same holds
abbrev pub MayCall : ℕ → List TypedTree → ℕ → ℕ → ℕ → Type 0
MayCall d targets k s count = (n : Signature) × MayReach d targets k s n × (count ≡ length n.parameters)

-- valid points and the trees of sites, with invocations less than `level` trees deep
pub record Setting : Type 0 where
  pub level : ℕ
  pub valid : List Bool
  pub targets : List TypedTree

abbrev pub setting : ℕ → List Bool → List TypedTree → Setting
setting level valid targets = record { level = level; valid = valid; targets = targets }

-- the meaning of trees in a setting
abbrev pub env : Setting → Environment
env x = below x.level x.valid x.targets

-- the greatest number of steps of trees that are invoked less than d trees deep
abbrev pub most_at : ℕ → ℕ
most_at zero = 0
most_at (suc d) = most_nodes * (1 + most_at d)

-- the greatest number of steps of a lawful tree: 2^18 + 2^36 + 2^54 + 2^72 + 2^90
abbrev pub greatest_steps : ℕ
greatest_steps = 1237944761669877611773558784

-- the setting of a lawful tree
abbrev pub sites : List Bool → List TypedTree → Setting
sites valid targets = setting (suc greatest_level) valid targets

-- each site's tree names only the first k points
abbrev pub HavePoints : ℕ → List TypedTree → Type 0
HavePoints k targets = All (λ (h : TypedTree). point_bound h.tree ≤ k) targets
