use Rattle.std.proofs.Common.{◌≡◌, ◌++◌, ◌≤◌, take, map, vec_capacity}
use Rattle.mh_tree.specs.Running.{value_of}
use Rattle.mh_run.proofs.locals.pass.Given as goal

abbrev pub invariant-loop-operand : goal.invariant-loop-operand
invariant-loop-operand l =
    (l.passed.items ≡ l.initial.passed.items ++ take l.operand-index (map (value_of l.arguments l.locals) l.operands))
    × (vec_capacity l.initial.passed ≤ vec_capacity l.passed)
