use Rattle.std.proofs.Common.{ℕ, ◌<◌}
use Rattle.mhlink_c.specs.Questions.{IsPoint}
use Rattle.mhlink_c.proofs.finding.point_number.Given as goal

-- no point before has the name
abbrev pub invariant-loop-point : goal.invariant-loop-point
invariant-loop-point l = (p : ℕ) → p < l.point → IsPoint l.definition l.name p → ⊥
