use Rattle.std.proofs.Common.{◌≡◌, ◌++◌, ◌≤◌, take, vec_capacity}
use Rattle.mh_eval.proofs.frames.put_values.Given as goal

abbrev pub invariant-loop-value : goal.invariant-loop-value
invariant-loop-value l = (l.stack.items ≡ l.initial.stack.items ++ take l.value-index l.values) × (vec_capacity l.initial.stack ≤ vec_capacity l.stack)
