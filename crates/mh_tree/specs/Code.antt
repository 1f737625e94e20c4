-- Prepared trees as plain data. The first number of each is its steps: the number of nodes of the tree that are evaluated with it.
use Rattle.std.specs.Prelude.{ℕ, List}
use Rattle.mh_type.specs.declared.operation.Op.{Op}
use Rattle.mh_tree.specs.declared.operand.Operand.{Operand}

pub data Code : Type 0 where
  -- the value of an operand
  leaf : ℕ → Operand → Code
  -- an operation on two operands
  apply : ℕ → Op → Operand → Operand → Code
  -- a first part, and a second with the first one's value as one more local
  bind : ℕ → Code → Code → Code
  -- test, target, fallback
  branch : ℕ → Code → Code → Code → Code
  -- point, target, fallback
  point : ℕ → ℕ → Code → Code → Code
  -- an invocation: site, arguments
  invoke : ℕ → ℕ → List Operand → Code
