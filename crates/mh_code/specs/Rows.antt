-- A chain of tests of one value, in its order: each has the int that it compares the value with, and the steps that it takes.
use Rattle.std.specs.Prelude.{◌≡◌, ℕ, ◌+◌, ◌<◌, ◌≤◌, ℤ, Bool, false, List, [], ◌∷◌, length, get_or, if◌then◌else◌}
use Rattle.std.specs.Ordering.{int_eq}
use Rattle.mh_type.specs.declared.value.Value.{Value}
use Rattle.mh_type.specs.declared.value.Value.TheVariants.{Int}
use Rattle.mh_code.specs.declared.index.Row.{Row}

-- whether a value is an int that is k
abbrev pub is_key : Value → ℤ → Bool
is_key (Int n) k = int_eq n k
is_key _ k = false

-- the index of the first row whose int the value equals, or the number of rows if there is none
abbrev pub row_of : Value → List Row → ℕ
row_of x [] = 0
row_of x (r ∷ rs) = if is_key x r.key then 0 else 1 + row_of x rs

-- the steps of the tests up to and including that row, or of all if there is none
abbrev pub steps_to : Value → List Row → ℕ
steps_to x [] = 0
steps_to x (r ∷ rs) = if is_key x r.key then r.steps else r.steps + steps_to x rs

-- the steps of all
abbrev pub all_steps : List Row → ℕ
all_steps [] = 0
all_steps (r ∷ rs) = r.steps + all_steps rs

-- the greatest number of rows of an index
abbrev pub most_rows : ℕ
most_rows = 64

-- the number of consecutive tests that become one piece
abbrev pub run_length : ℕ
run_length = 4
