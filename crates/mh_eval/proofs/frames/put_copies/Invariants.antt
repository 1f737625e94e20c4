use Rattle.std.proofs.Common.{◌≡◌, ◌++◌, ◌≤◌, ◌-◌, take, drop, vec_capacity}
use Rattle.mh_eval.proofs.frames.put_copies.Given as goal

abbrev pub invariant-loop-place : goal.invariant-loop-place
invariant-loop-place l =
    (l.stack.items ≡ l.initial.stack.items ++ take (l.place - l.first) (drop l.first (take l.end l.initial.stack.items)))
    × (vec_capacity l.initial.stack ≤ vec_capacity l.stack)
