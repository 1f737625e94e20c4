-- Routines over words that do what routines of prepared code do.
use Rattle.std.specs.Prelude.{◌≡◌, ℕ, ◌+◌, ℤ, List, Some, IfSome}
use Rattle.mh_type.specs.declared.outcome.Outcome.TheVariants as outcome
use Rattle.mh_type.specs.declared.value.Value.{Value}
use Rattle.mh_type.specs.declared.value.Value.TheVariants.{Boolean}
use Rattle.mh_type.specs.declared.kind.Kind.TheVariants as kind
use Rattle.mh_type.specs.declared.operation.Op.{Op}
use Rattle.mh_type.specs.Operations.{operate}
use Rattle.mh_type.specs.Signature.{Signature}
use Rattle.std.specs.Prelude.{[], ◌∷◌}
use Rattle.mh_tree.specs.Environment.{Environment}
use Rattle.mh_tree.specs.Running.{value_of}
use Rattle.mh_tree.specs.declared.operand.Operand.{Operand}
use Rattle.mh_code.specs.PieceOf.{key_source}
use Rattle.mh_code.specs.Routine.{Source, Routine}
use Rattle.mh_code.specs.inner.Runs.{source_outcome, source_steps, run_routine, routine_steps}
use Rattle.mh_words.specs.Routine.{WordRoutine}
use Rattle.mh_words.specs.Running.{source_word, holds, answer, answer_steps, outcome_of}
use Rattle.mh_words.specs.Values.{IsWord, truth_word, value_of_word}
use Rattle.mh_words.specs.inner.Agrees.{Agrees, Gives, IsKnown, input_word}
use Rattle.mh_words.specs.declared.input.Input.{Input}
use Rattle.mh_words.specs.declared.known.Known.{Known}
use Rattle.mh_words.specs.declared.made.Made.{Made}
use Rattle.mh_words.specs.declared.slot.Slot.{Slot}
use Rattle.mh_words.specs.declared.word_source.WordSource.{WordSource}
use Rattle.mh_words.specs.declared.word_test.WordTest.{WordTest}
use Rattle.mh_words.specs.declared.word_test.WordTest.TheVariants.{Is}

-- the facts known about an operand
abbrev pub Reads : Signature → List Known → Operand → Known → Type 0
Reads m ks o k = (a l : List Value) (f : List ℤ) → Agrees m ks a l f → IsKnown f k (value_of a l o)

-- the source of an operation on two words of which this is known
abbrev pub Computes : Op → Known → Known → Made → Type 0
Computes op j k y = (f : List ℤ) (x z : Value) → IsKnown f j x → IsKnown f k z → Gives y f (operate op (x ∷ z ∷ []))

-- a source of words whose outcome is that of a source of a routine, which takes no steps
pub record Makes (m : Signature) (ks : List Known) (x : Source) (y : Made) : Type 0 where
  pub gives : (v : Environment) (a l : List Value) (f : List ℤ) → Agrees m ks a l f → Gives y f (source_outcome v x a l)
  pub quick : (v : Environment) (a l : List Value) → source_steps v x a l ≡ 0

-- a source whose word is that of an input
abbrev pub Copies : WordSource → Input → Type 0
Copies s j = (f : List ℤ) → source_word f s ≡ Some (input_word f j)

-- a source whose word is the truth of a test
abbrev pub Tests : WordSource → WordTest → Type 0
Tests s t = (f : List ℤ) → IfSome (source_word f s) (λ w. IsWord (value_of_word kind.Boolean w) w) → source_word f s ≡ Some (truth_word (holds f t))

-- a source whose value is the truth of a test, and which takes no steps
pub record Asks (m : Signature) (ks : List Known) (x : Source) (t : WordTest) : Type 0 where
  pub truth : (v : Environment) (a l : List Value) (f : List ℤ) → Agrees m ks a l f → source_outcome v x a l ≡ outcome.Value (Boolean (holds f t))
  pub quick : (v : Environment) (a l : List Value) → source_steps v x a l ≡ 0

-- a slot that has the word of an int argument
abbrev pub IsKeySlot : Signature → List Known → ℕ → Slot → Type 0
IsKeySlot m ks i s = (key : ℤ) → Asks m ks (key_source (record { place = i; key = key })) (Is s key)

-- A routine p over words does, after n steps, what routine r does: for all arguments, locals and frames that agree.
pub record Lowers (m : Signature) (ks : List Known) (p : WordRoutine) (r : Routine) (n : ℕ) : Type 0 where
  pub outcome : (v : Environment) (a l : List Value) (f : List ℤ) → Agrees m ks a l f → run_routine v r a l ≡ outcome_of m.ret (answer v.valid p f)
  pub steps : (v : Environment) (a l : List Value) (f : List ℤ) → Agrees m ks a l f → n + routine_steps v r a l ≡ answer_steps v.valid p f
  pub proper : (v : Environment) (a l : List Value) (f : List ℤ) → Agrees m ks a l f → IfSome (answer v.valid p f) (λ w. IsWord (value_of_word m.ret w) w)
