-- The memory reserved for a run.
use Rattle.std.specs.Prelude.{ℕ}

-- the number of locals that a level holds without growing
abbrev pub lower_room : ℕ
lower_room = 6144
