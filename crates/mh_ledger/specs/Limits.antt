-- The limits of ledgers and totals.
use Rattle.std.specs.Prelude.{ℕ, ◌^◌}

-- the greatest limit on the hits of a link
abbrev pub greatest_limit : ℕ
greatest_limit = 2 ^ 62
