-- Tests in lists: decided ones, of which the first that fails is reported, and those of each element.
use Rattle.std.specs.Prelude.{Bool, cond, List, [], ◌∷◌, Option, Some, None, Result, Ok, Err}
use Rattle.mh_base.specs.Tests.{Tests}

-- each test with whether it holds, and the fault if it does not
abbrev pub Decided : Type 0 → Type 0
Decided E = List (Bool × E)

-- the fault of the first test that does not hold
abbrev pub first_failing : {E : Type 0} → Decided E → Option E
first_failing [] = None
first_failing (t ∷ more) = cond t.0 (first_failing more) (Some t.1)

-- the value if no test fails, and otherwise the fault that is reported
abbrev pub made_unless : {X E : Type 0} → X → Option E → Result X E
made_unless x None = Ok x
made_unless x (Some fault) = Err fault

-- the tests of each element in turn, and those that come after
abbrev pub tests_of_each : {X E : Type 0} → (X → Tests E → Tests E) → List X → Tests E → Tests E
tests_of_each tests [] later = later
tests_of_each tests (x ∷ xs) later = tests x (tests_of_each tests xs later)
