-- Values as words: an int is its number, within 32 bits, a long its number, and a boolean 0 or 1. A text has no word.
use Rattle.std.specs.Prelude.{◌≡◌, ℤ, pos, Bool, true, false, not, []}
use Rattle.std.specs.Int.{w32}
use Rattle.std.specs.Int.RustNames.{FitsSigned}
use Rattle.mh_type.specs.Operations.{is_zero}
use Rattle.mh_type.specs.declared.kind.Kind.{Kind}
use Rattle.mh_type.specs.declared.kind.Kind.TheVariants as kind
use Rattle.mh_type.specs.declared.value.Value.{Value}
use Rattle.mh_type.specs.declared.value.Value.TheVariants.{Int, Long, Boolean, Text}

-- the word of a boolean
abbrev pub truth_word : Bool → ℤ
truth_word true = pos 1
truth_word false = pos 0

-- whether a word is that of a value
abbrev pub IsWord : Value → ℤ → Type 0
IsWord (Int n) w = (w ≡ n) × FitsSigned w32 n
IsWord (Long n) w = w ≡ n
IsWord (Boolean b) w = w ≡ truth_word b
IsWord (Text t) w = ⊥

-- the value of a kind, other than Text, that has a word
abbrev pub value_of_word : Kind → ℤ → Value
value_of_word kind.Int w = Int w
value_of_word kind.Long w = Long w
value_of_word kind.Boolean w = Boolean (not (is_zero w))
value_of_word kind.Text w = Text []
