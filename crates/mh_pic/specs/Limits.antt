-- The limits of an inline cache, whose base tree is a declared one.
use Rattle.std.specs.Prelude.{ℕ}

-- the greatest number of entries
abbrev pub most_entries : ℕ
most_entries = 4

-- the depth and the size of the greatest cache
abbrev pub deepest_chain : ℕ
deepest_chain = 76

abbrev pub most_chain_nodes : ℕ
most_chain_nodes = 151600
