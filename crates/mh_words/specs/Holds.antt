-- Frames that hold arguments.
use Rattle.std.specs.Prelude.{◌≡◌, ℕ, ◌<◌, ℤ, List, length}
use Rattle.mh_type.specs.declared.value.Value.{Value}
use Rattle.mh_type.specs.declared.value.Value.TheVariants.{Text}
use Rattle.mh_tree.specs.Meaning.{argument}
use Rattle.mh_words.specs.Limits.{frame_length}
use Rattle.mh_words.specs.Running.{word_at}
use Rattle.mh_words.specs.Values.{IsWord}

-- a word that represents a value, if the value is not a text
abbrev pub IsHeld : Value → ℤ → Type 0
IsHeld (Text t) w = Unit {0}
IsHeld x w = IsWord x w

-- a frame whose leading slots hold the words of arguments; a slot of a text holds anything
pub record Holds (a : List Value) (f : List ℤ) : Type 0 where
  pub room : length f ≡ frame_length
  pub arguments : (i : ℕ) → i < length a → IsHeld (argument a i) (word_at f i)
