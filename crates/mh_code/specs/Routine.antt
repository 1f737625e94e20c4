-- Prepared trees as routines: an action, and what follows. The first number of each is its steps: the number of nodes of the tree that are
-- evaluated with it.
use Rattle.std.specs.Prelude.{ℕ, List}
use Rattle.mh_type.specs.declared.operation.Op.{Op}
use Rattle.mh_tree.specs.declared.operand.Operand.{Operand}

-- the origin of a value: an operand, an operation on two operands, or an invocation of a site
pub data Source : Type 0 where
  operand : Operand → Source
  operation : Op → Operand → Operand → Source
  invocation : ℕ → List Operand → Source

pub data Routine : Type 0 where
  -- a source's value is the answer
  give : ℕ → Source → Routine
  -- a source's value becomes the local with a number, and the rest follows
  keep : ℕ → Source → ℕ → Routine → Routine
  -- a source's truth chooses one of two
  pick : ℕ → Source → Routine → Routine → Routine
  -- a point's validity chooses one of two
  point : ℕ → ℕ → Routine → Routine → Routine

-- the use of the value of a part: it is the answer, a local that a routine reads, the truth that chooses one of two, or a truth whose
-- `not`, with a step of its own, chooses
pub data Purpose : Type 0 where
  answer : Purpose
  local : ℕ → Routine → Purpose
  truth : Routine → Routine → Purpose
  untruth : Routine → Routine → Purpose
