use Rattle.std.proofs.Common.{◌≡◌, map, take}
use Rattle.mh_tree.specs.Prepared.{operand_at}
use Rattle.mh_code.proofs.operands.reordered.Given as goal

abbrev pub invariant-loop-place : goal.invariant-loop-place
invariant-loop-place l = l.list.items ≡ map (operand_at l.operands) (take l.place-index l.places)
