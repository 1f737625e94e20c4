-- The limits of a definition.
use Rattle.std.specs.Prelude.{ℕ, ◌^◌}
use Rattle.mh_site.specs.declared.version.Version.{Version}
use Rattle.mh_site.specs.declared.version.Version.TheVariants.{One, Two}

-- the greatest number of points, and of sites
abbrev pub most_points : Version → ℕ
most_points One = 1024
most_points Two = 4096

abbrev pub most_sites : Version → ℕ
most_sites One = 1024
most_sites Two = 4096

-- the greatest number of links of a site
abbrev pub most_links : ℕ
most_links = 4

-- the greatest cost of a point, and the greatest weight and charge of a link
abbrev pub greatest_cost : ℕ
greatest_cost = 2 ^ 40

abbrev pub greatest_weight : ℕ
greatest_weight = 2 ^ 20

abbrev pub greatest_charge : ℕ
greatest_charge = 2 ^ 40

-- the number of bytes of the longest name
abbrev pub longest_name : ℕ
longest_name = 64
