-- Uses of a value: it chooses one of two, the first only if it is true, or it is stored as the local with a number.
use Rattle.std.specs.Prelude.{◌≡◌, ℕ, Bool, true, false, List}
use Rattle.mh_code.specs.inner.Runs.{put}
use Rattle.mh_type.specs.declared.outcome.Outcome.{Outcome}
use Rattle.mh_type.specs.declared.outcome.Outcome.TheVariants as outcome
use Rattle.mh_type.specs.declared.value.Value.{Value}
use Rattle.mh_type.specs.declared.value.Value.TheVariants.{Boolean}

abbrev pub is_truth : Value → Bool
is_truth (Boolean b) = b
is_truth _ = false

abbrev pub picked : {A : Type 0} → Value → A → A → A
picked (Boolean true) x y = x
picked _ x y = y

-- an outcome is a value, and locals k are locals l with it at index i
abbrev pub IsPut : Outcome → List Value → ℕ → List Value → Type 0
IsPut (outcome.Value x) l i k = k ≡ put l i x
IsPut (outcome.Thrown t) l i k = ⊥
