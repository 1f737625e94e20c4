-- Code over words that does what a tree does.
use Rattle.std.specs.Prelude.{◌≡◌, ℤ, List, IfSome}
use Rattle.mh_type.specs.declared.value.Value.{Value}
use Rattle.mh_type.specs.Fits.{Fits}
use Rattle.mh_tree.specs.Environment.{Environment}
use Rattle.mh_tree.specs.Handle.{TypedTree}
use Rattle.mh_tree.specs.Meaning.{mean, steps}
use Rattle.mh_words.specs.Holds.{Holds}
use Rattle.mh_words.specs.RoutineOf.{word_routine}
use Rattle.mh_words.specs.Running.{answer, answer_steps, outcome_of}
use Rattle.mh_words.specs.Values.{IsWord, value_of_word}
use Rattle.mh_words.specs.Words.{Words}

-- for all arguments that fit, and any frame that holds them: the tree's outcome and its steps
pub record Means (w : Words) (h : TypedTree) : Type 0 where
  pub outcome : (v : Environment) (a : List Value) (f : List ℤ) → Fits h.signature a → Holds a f → outcome_of w.kind (answer v.valid (word_routine w.entry) f) ≡ mean v h.tree a
  pub steps : (v : Environment) (a : List Value) (f : List ℤ) → Fits h.signature a → Holds a f → answer_steps v.valid (word_routine w.entry) f ≡ steps v h.tree a
  -- the word of an answer is that of its value
  pub proper : (v : Environment) (a : List Value) (f : List ℤ) → Fits h.signature a → Holds a f → IfSome (answer v.valid (word_routine w.entry) f) (λ n. IsWord (value_of_word w.kind n) n)
