-- The limits of types and texts.
use Rattle.std.specs.Prelude.{ℕ}

-- the greatest number of parameters of a method type
abbrev pub most_parameters : ℕ
most_parameters = 16

-- the number of bytes of the longest text
abbrev pub longest_text : ℕ
longest_text = 65536
