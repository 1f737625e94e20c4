-- The limits of problems.
use Rattle.std.specs.Prelude.{ℕ, ◌^◌}

-- the greatest number of links, and of points, of a problem that `Problem::new` makes
abbrev pub most_links : ℕ
most_links = 16384

abbrev pub most_points : ℕ
most_points = 4096

-- the greatest number of links, of points, and of needs of a link, of a problem that `Problem::large` makes: no problem has more
abbrev pub greatest_count : ℕ
greatest_count = 1048576

-- the greatest sum of the gains, and of the costs and charges
abbrev pub greatest_sum : ℕ
greatest_sum = 2 ^ 62
