-- The limits of running threads.
use Rattle.std.specs.Prelude.{ℕ, ◌^◌}

-- a list of controls is shorter than this before one is added
abbrev pub most_controls : ℕ
most_controls = 2 ^ 62

-- the greatest number of hits of a link that all passes made and did not flush
abbrev pub most_hits_of_all : ℕ
most_hits_of_all = 2 ^ 126
