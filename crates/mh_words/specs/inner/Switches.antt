-- Chains of tests of one slot, with the piece that each key leads to, the last test first.
use Rattle.std.specs.Prelude.{◌≡◌, ◌<◌, ℕ, ℤ, pos, ◌+ℤ◌, int_lt, Bool, List, [], ◌∷◌, if◌then◌else◌}
use Rattle.std.specs.Arc.{arc_value}
use Rattle.mh_type.specs.Operations.{int_eq}
use Rattle.mh_words.specs.Routine.{WordRoutine, pick}
use Rattle.mh_words.specs.RoutineOf.{word_routine}
use Rattle.mh_words.specs.Running.{answer, answer_steps}
use Rattle.mh_words.specs.declared.keyed.Keyed.{Keyed}
use Rattle.mh_words.specs.declared.slot.Slot.{Slot}
use Rattle.mh_words.specs.declared.word_test.WordTest.TheVariants.{Is}

-- the chain of tests, after which the routine o follows
abbrev pub tests : Slot → WordRoutine → List Keyed → WordRoutine
tests s o [] = o
tests s o (k ∷ ks) = tests s (pick (Is s k.key) (word_routine (arc_value k.target)) o) ks

-- the routine that follows if the slot has the word w
abbrev pub target_of : ℤ → WordRoutine → List Keyed → WordRoutine
target_of w o [] = o
target_of w o (k ∷ ks) = target_of w (if int_eq w k.key then word_routine (arc_value k.target) else o) ks

-- the routine that follows a table if the slot has the word w
abbrev pub entry_of : ℤ → ℤ → List WordRoutine → WordRoutine → WordRoutine
entry_of w n [] o = o
entry_of w n (p ∷ ps) o = if int_eq w n then p else entry_of w (n +ℤ pos 1) ps o

-- each key is one of the c keys from n on
abbrev pub AllWithin : ℤ → ℕ → List Keyed → Type 0
AllWithin n c [] = Unit {0}
AllWithin n c (k ∷ ks) = ((i : ℕ) × (i < c) × (k.key ≡ n +ℤ pos i)) × AllWithin n c ks

-- the keys less than one, and the others
abbrev pub keys_below : ℤ → List Keyed → List Keyed
keys_below p [] = []
keys_below p (k ∷ ks) = if int_lt k.key p then k ∷ keys_below p ks else keys_below p ks

abbrev pub keys_from : ℤ → List Keyed → List Keyed
keys_from p [] = []
keys_from p (k ∷ ks) = if int_lt k.key p then keys_from p ks else k ∷ keys_from p ks

-- two routines that return the same for all frames
pub record Same (p q : WordRoutine) : Type 0 where
  pub answer_is : (valid : List Bool) (f : List ℤ) → answer valid p f ≡ answer valid q f
  pub steps_are : (valid : List Bool) (f : List ℤ) → answer_steps valid p f ≡ answer_steps valid q f
