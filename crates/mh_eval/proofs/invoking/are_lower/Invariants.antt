use Rattle.std.proofs.Common.{ℕ, ◌<◌}
use Rattle.mh_tree.specs.Sites.{InvokesBelow, level_at, target_at}
use Rattle.mh_tree.specs.Typing.{IsTyped}
use Rattle.mh_eval.proofs.invoking.are_lower.Given as goal

-- each site so far
abbrev pub invariant-loop-site : goal.invariant-loop-site
invariant-loop-site l = record {
  lower : (s : ℕ) → s < l.site → InvokesBelow l.levels l.targets (level_at l.levels s) (target_at l.targets s).tree;
  typed : (s : ℕ) → s < l.site → IsTyped (target_at l.targets s).tree (target_at l.targets s).signature;
}
