-- Tests in an order: the first that fails is reported.
use Rattle.std.specs.Prelude.{◌≡◌, ◌⊎◌}

-- a fact, the faults that may be reported if it fails, and the tests that come after; the faults that may be reported though no test fails,
-- and the tests that come after; or no more tests, and the faults that may be reported if none failed
pub data Tests (E : Type 0) : Type 1 where
  no_more : (E → Type 0) → Tests E
  test : Type 0 → (E → Type 0) → Tests E → Tests E
  may_tell : (E → Type 0) → Tests E → Tests E

abbrev pub Passes : {E : Type 0} → Tests E → Type 0
Passes (no_more tells) = Unit {0}
Passes (test fact tells later) = fact × Passes later
Passes (may_tell tells later) = Passes later

-- `told` is a fault of the first failing test, or one that may be reported before it
abbrev pub Refuses : {E : Type 0} → Tests E → E → Type 0
Refuses (no_more tells) told = tells told
Refuses (test fact tells later) told = ((fact → ⊥) × tells told) ⊎ (fact × Refuses later told)
Refuses (may_tell tells later) told = tells told ⊎ Refuses later told

-- only this fault is reported
abbrev pub only : {E : Type 0} → E → E → Type 0
only fault told = told ≡ fault

-- no fault is reported
abbrev pub nothing : {E : Type 0} → E → Type 0
nothing told = ⊥
