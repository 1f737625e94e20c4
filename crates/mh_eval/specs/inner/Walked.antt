-- The result of walking a tree on the arguments of a frame.
use Rattle.std.specs.Prelude.{◌≡◌, ℕ, ◌+◌, ◌*◌, ◌≤◌, Bool, false, List, [], ◌∷◌, length, slice_set, ◌++◌, Result, Ok, Err}
use Rattle.mh_type.specs.declared.value.Value.{Value}
use Rattle.mh_type.specs.declared.value.Value.TheVariants as value
use Rattle.mh_type.specs.declared.outcome.Throw.{Throw}
use Rattle.mh_type.specs.declared.outcome.Outcome.{Outcome}
use Rattle.mh_type.specs.declared.outcome.Outcome.TheVariants as outcome
use Rattle.mh_tree.specs.Limits.{depth, deepest, most_steps, all_steps, greatest_depth}
use Rattle.mh_tree.specs.Meaning.{mean, steps, argument, filtered, filter_steps}
use Rattle.mh_tree.specs.Tree.{Tree, Filters}
use Rattle.mh_eval.specs.Answers.{Ran}
use Rattle.mh_eval.specs.Entered.{EntersPlain, FiltersPlain}
use Rattle.mh_eval.specs.Quiet.{IsAnswered, NoTexts}
use Rattle.mh_eval.specs.declared.answer.Answer.{Answer}
use Rattle.mh_eval.specs.declared.answer.Answer.TheVariants.{Int, Long, Boolean, Text, Thrown, NoMemory}
use Rattle.mh_type.specs.Limits.{most_parameters}
use Rattle.mh_eval.specs.inner.Limits.{level_room}
use Rattle.mh_tree.specs.Sites.{Setting, env, most_at}

-- The outcome and the steps, or memory was refused. With n values on a stack of capacity c, it is not refused if no node evaluated has
-- String in its type and each level of the tree, and 96 of each tree invoked below it, has room for 32 more, for all further arguments e.
pub record Walked (r : Answer) (k : ℕ) (v : Setting) (t : Tree) (a : List Value) (n c : ℕ) : Type 0 where
  pub ran : Ran r k (mean (env v) t a) (steps (env v) t a)
  pub few : k ≤ most_steps (most_at v.level) t
  pub quiet : (e : List Value) → EntersPlain v t (a ++ e) → NoTexts (a ++ e) → n + level_room * (depth t + greatest_depth * v.level) ≤ c → IsAnswered r

-- the truth of a value
abbrev pub is_true : Value → Bool
is_true (value.Boolean b) = b
is_true _ = false

-- the value of an answer, or the answer that ends the walk
abbrev pub settled : Answer → Result Value Answer
settled (Int x) = Ok (value.Int x)
settled (Long x) = Ok (value.Long x)
settled (Boolean x) = Ok (value.Boolean x)
settled (Text x) = Ok (value.Text x)
settled (Thrown t) = Err (Thrown t)
settled NoMemory = Err NoMemory

-- a result that is a value, or an answer that ends the walk
abbrev pub Settles : {A : Type 0} → Result A Answer → (Answer → Type 0) → Type 0 → Type 0
Settles (Ok x) E P = P
Settles (Err r) E P = E r

-- an answer that ends the walk: a throw, or the refusal of memory
abbrev pub Ends : Answer → ℕ → Outcome → ℕ → Type 0
Ends (Thrown t) k o m = (o ≡ outcome.Thrown t) × (k ≡ m)
Ends NoMemory k o m = Unit {0}
Ends _ k o m = ⊥

-- A filter's value replaces its argument, or the walk ends and the stack is as before.
pub record Placed {A : Type 0} (r : Result A Answer) (k : ℕ) (v : Setting) (f : Tree) (p : ℕ) (old new : List Value) (c : ℕ) : Type 0 where
  pub value : Settles r (λ s. Ends s k (mean (env v) f (argument old p ∷ [])) (steps (env v) f (argument old p ∷ [])) × (new ≡ old))
      ((mean (env v) f (argument old p ∷ []) ≡ outcome.Value (argument new p)) × (k ≡ steps (env v) f (argument old p ∷ [])) × (new ≡ slice_set old p (argument new p)))
  pub few : k ≤ most_steps (most_at v.level) f
  pub quiet : EntersPlain v f (argument old p ∷ []) → NoTexts (argument old p ∷ []) → length old + most_parameters + level_room * (depth f + greatest_depth * v.level) ≤ c → Settles r IsAnswered (Unit {0})

-- an answer that ends a walk of filters
abbrev pub Stops : Answer → ℕ → Result (List Value) Throw → ℕ → Type 0
Stops (Thrown t) k r m = (r ≡ Err t) × (k ≡ m)
Stops NoMemory k r m = Unit {0}
Stops _ k r m = ⊥

-- The arguments after filters are in their places, or the walk ends.
pub record Passed {A : Type 0} (r : Result A Answer) (k : ℕ) (v : Setting) (fs : Filters) (p : ℕ) (old new : List Value) (n c : ℕ) : Type 0 where
  pub value : Settles r (λ s. Stops s k (filtered (env v) fs p old) (filter_steps (env v) fs p old)) ((filtered (env v) fs p old ≡ Ok new) × (k ≡ filter_steps (env v) fs p old))
  pub few : k ≤ all_steps (most_at v.level) fs
  pub quiet : (e : List Value) → FiltersPlain v fs p (old ++ e) → NoTexts (old ++ e) → n + most_parameters + level_room * (deepest fs + greatest_depth * v.level) ≤ c → Settles r IsAnswered (Unit {0})
