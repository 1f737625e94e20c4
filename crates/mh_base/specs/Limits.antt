-- Limits that several crates share.
use Rattle.std.specs.Prelude.{ℕ}

-- the greatest number of needs of a link
abbrev pub most_needs : ℕ
most_needs = 8

-- the greatest number of workers: threads that make calls, or that solve the parts of a problem
abbrev pub most_workers : ℕ
most_workers = 64
