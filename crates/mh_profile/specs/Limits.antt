-- The limits of profiles.
use Rattle.std.specs.Prelude.{ℕ}

-- the most bytes of all lines of a profile together: 2^26
abbrev pub most_in_all : ℕ
most_in_all = 67108864

-- the most bytes of a profile and the line of a plan of it: 2^27
abbrev pub most_in_claim : ℕ
most_in_claim = 134217728

-- the most bytes of a profile that are read at once: 2^13
abbrev pub most_at_once : ℕ
most_at_once = 8192
