use Rattle.std.proofs.Common.{◌≡◌, ◌++◌, take, map}
use Rattle.mh_tree.specs.declared.operand.Operand.TheVariants.{Constant}
use Rattle.mh_code.proofs.operands.append_constants.Given as goal

abbrev pub invariant-loop-value : goal.invariant-loop-value
invariant-loop-value l = l.list.items ≡ l.initial.list.items ++ map Constant (take l.value-index l.values)
