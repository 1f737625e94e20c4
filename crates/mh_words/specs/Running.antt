-- Results of code over words for a frame f, if `valid` says which points are valid.
use Rattle.std.specs.Prelude.{ℕ, ℤ, pos, int_lt, Bool, false, not, List, slice_index_or, slice_set, Option, Some, None, if◌then◌else◌}
use Rattle.mh_type.specs.declared.kind.Kind.{Kind}
use Rattle.mh_type.specs.declared.outcome.Outcome.{Outcome}
use Rattle.mh_type.specs.declared.outcome.Outcome.TheVariants as outcome
use Rattle.mh_type.specs.declared.outcome.Throw.TheVariants.{ArithmeticException}
use Rattle.mh_type.specs.Operations.{int_eq, is_zero}
use Rattle.mh_words.specs.Operations.{result}
use Rattle.mh_words.specs.Routine.{WordRoutine, give, keep, pick, point}
use Rattle.mh_words.specs.Values.{value_of_word}
use Rattle.mh_words.specs.declared.word_source.WordSource.{WordSource}
use Rattle.mh_words.specs.declared.word_source.WordSource.TheVariants.{Constant, Copy, Apply, ApplyRight, ApplyLeft}
use Rattle.mh_words.specs.declared.word_test.WordTest.{WordTest}
use Rattle.mh_words.specs.declared.word_test.WordTest.TheVariants.{True, Equal, Is, Less, Below, Above}

-- the word in a slot
abbrev pub word_at : List ℤ → ℕ → ℤ
word_at f i = slice_index_or f i (pos 0)

-- a source's word, and none if it throws an ArithmeticException
abbrev pub source_word : List ℤ → WordSource → Option ℤ
source_word f (Constant n) = Some n
source_word f (Copy s) = Some (word_at f s.place)
source_word f (Apply op x y) = result op (word_at f x.place) (word_at f y.place)
source_word f (ApplyRight op x n) = result op (word_at f x.place) n
source_word f (ApplyLeft op n y) = result op n (word_at f y.place)

abbrev pub holds : List ℤ → WordTest → Bool
holds f (True x) = not (is_zero (word_at f x.place))
holds f (Equal x y) = int_eq (word_at f x.place) (word_at f y.place)
holds f (Is x n) = int_eq (word_at f x.place) n
holds f (Less x y) = int_lt (word_at f x.place) (word_at f y.place)
holds f (Below x n) = int_lt (word_at f x.place) n
holds f (Above x n) = int_lt n (word_at f x.place)

-- continues with a word, and stops at a throw
abbrev pub and_then : Option ℤ → (ℤ → Option ℤ) → Option ℤ
and_then (Some w) go = go w
and_then None go = None

-- whether a point is valid
abbrev pub is_valid : List Bool → ℕ → Bool
is_valid valid p = slice_index_or valid p false

-- the word of the answer, and none if the routine throws an ArithmeticException
abbrev pub answer : List Bool → WordRoutine → List ℤ → Option ℤ
answer valid (give s x) f = source_word f x
answer valid (keep s x i r) f = and_then (source_word f x) (λ w. answer valid r (slice_set f i w))
answer valid (pick t r q) f = if holds f t then answer valid r f else answer valid q f
answer valid (point p r q) f = if is_valid valid p then answer valid r f else answer valid q f

-- the steps after a word, or those before a throw
abbrev pub steps_then : Option ℤ → ℕ → (ℤ → ℕ) → ℕ
steps_then (Some w) s go = go w
steps_then None s go = s

-- the steps to the answer or to the throw
abbrev pub answer_steps : List Bool → WordRoutine → List ℤ → ℕ
answer_steps valid (give s x) f = s
answer_steps valid (keep s x i r) f = steps_then (source_word f x) s (λ w. answer_steps valid r (slice_set f i w))
answer_steps valid (pick t r q) f = if holds f t then answer_steps valid r f else answer_steps valid q f
answer_steps valid (point p r q) f = if is_valid valid p then answer_steps valid r f else answer_steps valid q f

-- the outcome that a word is, of a kind, or the throw of none
abbrev pub outcome_of : Kind → Option ℤ → Outcome
outcome_of k (Some w) = outcome.Value (value_of_word k w)
outcome_of k None = outcome.Thrown ArithmeticException
