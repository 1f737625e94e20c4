-- Trees that have enough arguments.
use Rattle.std.specs.Prelude.{ℕ, ◌+◌, ◌<◌, ◌≤◌, length}
use Rattle.mh_type.specs.Signature.{Signature}
use Rattle.mh_tree.specs.Tree.{Tree, Filters, no_more, absent, present}
use Rattle.mh_tree.specs.Typing.{IsTyped}
use Rattle.mh_tree.specs.Limits.{most_steps, point_bound}
use Rattle.mh_tree.specs.Sites.{Setting, EachInvoke, MayReach, most_at, greatest_steps}

-- well typed, with an argument for each parameter, a valid bit for each point, and a tree for each site that it invokes
pub record CanRun (t : Tree) (width : ℕ) (x : Setting) : Type 0 where
  pub signature : Signature
  pub typed : IsTyped t signature
  pub wide : length signature.parameters ≤ width
  pub known : point_bound t ≤ length x.valid
  pub small : most_steps (most_at x.level) t ≤ greatest_steps
  pub invokes : EachInvoke (MayReach x.level x.targets (length x.valid)) t

-- filters from position p on: each position is that of an argument, and each filter that is present can run on one
abbrev pub CanFilter : Filters → ℕ → ℕ → Setting → Type 0
CanFilter no_more p width x = Unit {0}
CanFilter (absent fs) p width x = (p < width) × CanFilter fs (p + 1) width x
CanFilter (present f fs) p width x = (p < width) × CanRun f 1 x × CanFilter fs (p + 1) width x
