-- The room of a stack.
use Rattle.std.specs.Prelude.{ℕ}

-- the number of values that a stack holds without growing
abbrev pub least_room : ℕ
least_room = 16384

-- the greatest number of values that a level of a tree takes: a node's arguments, and as many again for those of the node below it
abbrev pub level_room : ℕ
level_room = 32
