-- Values that are pushed on a stack.
use Rattle.std.specs.Prelude.{◌≡◌, ℕ, ◌+◌, ◌≤◌, List, ◌++◌, take, length, Result, OnOk, IsOk}
use Rattle.mh_type.specs.declared.value.Value.{Value}
use Rattle.mh_eval.specs.Quiet.{NoTexts}

-- Values xs were pushed on a stack of capacity c, or memory was refused, which does not happen if none of them is a text and there is room.
-- The values below do not change.
pub record Extends {A E : Type 0} (r : Result A E) (old new xs : List Value) (c d : ℕ) : Type 0 where
  pub value : OnOk r (new ≡ old ++ xs)
  pub kept : take (length old) new ≡ old
  pub room : c ≤ d
  pub quiet : NoTexts xs → length old + length xs ≤ c → IsOk r
