use Rattle.std.proofs.Common.{◌≡◌, ◌++◌, ◌≤◌, take, drop, map, vec_capacity}
use Rattle.mh_tree.specs.Meaning.{argument}
use Rattle.mh_eval.proofs.frames.put_reordered.Given as goal

abbrev pub invariant-loop-place : goal.invariant-loop-place
invariant-loop-place l =
    (l.stack.items ≡ l.initial.stack.items ++ take l.place-index (map (argument (drop l.from l.initial.stack.items)) l.reorder))
    × (vec_capacity l.initial.stack ≤ vec_capacity l.stack)
