-- The sum of the outcomes of calls.
use Rattle.std.specs.Prelude.{ℕ, length, if◌then◌else◌}
use Rattle.std.specs.Int.RustNames.{unsigned_abs}
use Rattle.mh_type.specs.declared.value.Value.TheVariants.{Int, Long, Boolean, Text}
use Rattle.mh_type.specs.declared.outcome.Outcome.{Outcome}
use Rattle.mh_type.specs.declared.outcome.Outcome.TheVariants as outcome

-- the magnitude of a number, 1 or 0 of a truth value, the bytes of a text; a throw adds nothing
abbrev pub magnitude : Outcome → ℕ
magnitude (outcome.Value (Int z)) = unsigned_abs z
magnitude (outcome.Value (Long z)) = unsigned_abs z
magnitude (outcome.Value (Boolean b)) = if b then 1 else 0
magnitude (outcome.Value (Text t)) = length t
magnitude (outcome.Thrown t) = 0
