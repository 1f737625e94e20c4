-- Explanations of why a text cannot be read, in lines.
use Rattle.std.specs.Prelude.{◌≡◌, ◌⊎◌, ℕ, List, [], ◌∷◌, Some, None}
use Rattle.std.specs.List.{slice_get}
use Rattle.mh_explain.specs.Explanations.{ExplainsDefinition, ExplainsRead}
use Rattle.mh_json.specs.Inputs.{json_of_input}
use Rattle.mh_json.specs.declared.json.form.InputForm.TheVariants as input
use Rattle.mhlink_c.specs.Buffers.{IsCopied, IsTooShort}
use Rattle.mhlink_c.specs.Statuses.{no_memory}
use Rattle.mhlink_c.specs.declared.explaining.TextForm.{TextForm}
use Rattle.mhlink_c.specs.declared.explaining.TextForm.TheVariants.{Definition, Input}
use Rattle.mhlink_c.specs.declared.failure.Failure.{Failure}
use Rattle.mhlink_c.specs.declared.failure.Failure.TheVariants.{Short, Unknown}

-- each form, at its number in C
abbrev pub forms : List TextForm
forms = Definition ∷ Input input.Script ∷ Input input.Problem ∷ Input input.Claim ∷ []

-- lines explain the first fault of a text that is read as this form
abbrev pub IsExplanation : TextForm → List ℕ → List ℕ → Type 0
IsExplanation Definition text lines = ExplainsDefinition text lines
IsExplanation (Input form) text lines = ExplainsRead form (json_of_input text) lines

-- such lines are copied
abbrev pub Copies : ℕ → List ℕ → ℕ → List ℕ → Type 0
Copies number text count buffer =
    (form : TextForm) × ((slice_get forms number ≡ Some form)
    × ((lines : List ℕ) × (IsExplanation form text lines × IsCopied lines count buffer)))

-- such lines are longer than the buffer
abbrev pub IsShort : ℕ → List ℕ → ℕ → List ℕ → Type 0
IsShort number text count buffer =
    (form : TextForm) × ((slice_get forms number ≡ Some form)
    × ((lines : List ℕ) × (IsExplanation form text lines × IsTooShort lines count buffer)))

-- the number is that of no form; or memory ran out, or the buffer is too short, for the lines
abbrev pub RefusesLines : ℕ → List ℕ → ℕ → List ℕ → Failure → Type 0
RefusesLines number text count buffer e =
    ((e ≡ Unknown) × (slice_get forms number ≡ None)) ⊎ (e ≡ no_memory)
    ⊎ ((e ≡ Short) × IsShort number text count buffer)
