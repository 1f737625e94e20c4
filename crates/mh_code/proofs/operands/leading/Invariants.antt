use Rattle.std.proofs.Common.{◌≡◌, take}
use Rattle.mh_tree.specs.Prepared.{leading_arguments}
use Rattle.mh_code.proofs.operands.leading.Given as goal

abbrev pub invariant-loop-operand : goal.invariant-loop-operand
invariant-loop-operand l = (take l.operand-index l.operands ≡ leading_arguments l.count) × (l.operand-index ≡ l.count)
