-- Routines that run without further memory: the parts that run return no text, and join none.
use Rattle.std.specs.Prelude.{◌≡◌, ℕ, ◌+◌, max, List, [], ◌∷◌, map}
use Rattle.mh_code.specs.Routine.{Source, operand, operation, invocation, Routine, give, keep, pick, point, Purpose, answer, local, truth, untruth}
use Rattle.mh_code.specs.inner.Runs.{source_outcome, put}
use Rattle.mh_eval.specs.Entered.{WithValue, Chosen, OneOf, plain_below}
use Rattle.mh_eval.specs.Quiet.{NoTexts}
use Rattle.mh_tree.specs.Meaning.{is_valid}
use Rattle.mh_tree.specs.Running.{value_of}
use Rattle.mh_tree.specs.Sites.{Setting, env}
use Rattle.mh_type.specs.Kinds.{kind_of}
use Rattle.mh_type.specs.declared.kind.Kind.TheVariants as kind
use Rattle.mh_type.specs.Operations.{operate}
use Rattle.mh_type.specs.declared.operation.Op.TheVariants.{Concat, Not}
use Rattle.mh_type.specs.declared.value.Value.{Value}

abbrev pub IsSourceQuiet : Setting → Source → List Value → List Value → Type 0
IsSourceQuiet v (operand o) a l = kind_of (value_of a l o) ≡ kind.Text → ⊥
IsSourceQuiet v (operation op x y) a l = op ≡ Concat → ⊥
IsSourceQuiet v (invocation s os) a l = NoTexts (map (value_of a l) os) × plain_below v.level v.valid v.targets s (map (value_of a l) os)

-- IsSourceQuiet for a source whose truth chooses: an operand is only read
abbrev pub IsTestQuiet : Setting → Source → List Value → List Value → Type 0
IsTestQuiet v (operand o) a l = Unit {0}
IsTestQuiet v (operation op x y) a l = IsSourceQuiet v (operation op x y) a l
IsTestQuiet v (invocation s os) a l = IsSourceQuiet v (invocation s os) a l

-- the parts of the routine that run are quiet
abbrev pub IsRoutineQuiet : Setting → Routine → List Value → List Value → Type 0
IsRoutineQuiet v (give s x) a l = IsSourceQuiet v x a l
IsRoutineQuiet v (keep s x i r) a l =
    IsSourceQuiet v x a l × WithValue (source_outcome (env v) x a l) (λ y. IsRoutineQuiet v r a (put l i y))
IsRoutineQuiet v (pick s x r q) a l =
    IsTestQuiet v x a l × WithValue (source_outcome (env v) x a l) (λ b. Chosen b (IsRoutineQuiet v r a l) (IsRoutineQuiet v q a l))
IsRoutineQuiet v (point s p r q) a l = OneOf (is_valid (env v) p) (IsRoutineQuiet v r a l) (IsRoutineQuiet v q a l)

-- the use of a value is quiet
abbrev pub IsPurposeQuiet : Setting → Purpose → List Value → List Value → Value → Type 0
IsPurposeQuiet v answer a l x = Unit {0}
IsPurposeQuiet v (local i r) a l x = IsRoutineQuiet v r a (put l i x)
IsPurposeQuiet v (truth r q) a l x = Chosen x (IsRoutineQuiet v r a l) (IsRoutineQuiet v q a l)
IsPurposeQuiet v (untruth r q) a l x = WithValue (operate Not (x ∷ [])) (λ b. Chosen b (IsRoutineQuiet v r a l) (IsRoutineQuiet v q a l))

-- the number of slots that its locals take
abbrev pub slots : Routine → ℕ
slots (give s x) = 0
slots (keep s x i r) = max (i + 1) (slots r)
slots (pick s x r q) = max (slots r) (slots q)
slots (point s p r q) = max (slots r) (slots q)

abbrev pub purpose_slots : Purpose → ℕ
purpose_slots answer = 0
purpose_slots (local i r) = max (i + 1) (slots r)
purpose_slots (truth r q) = max (slots r) (slots q)
purpose_slots (untruth r q) = max (slots r) (slots q)
