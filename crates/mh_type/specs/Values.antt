-- Equality of values, as a test that computes.
use Rattle.std.specs.Prelude.{Bool, true, false, not}
use Rattle.std.specs.Ordering.{int_eq}
use Rattle.std.specs.Str.{bytes_eq}
use Rattle.mh_type.specs.declared.value.Value.{Value}
use Rattle.mh_type.specs.declared.value.Value.TheVariants.{Int, Long, Boolean, Text}

abbrev pub same_truth : Bool → Bool → Bool
same_truth true b = b
same_truth false b = not b

-- equal values of the same kind
abbrev pub same_value : Value → Value → Bool
same_value (Int x) (Int y) = int_eq x y
same_value (Long x) (Long y) = int_eq x y
same_value (Boolean x) (Boolean y) = same_truth x y
same_value (Text x) (Text y) = bytes_eq x y
same_value _ _ = false
