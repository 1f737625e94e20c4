-- The result of running a routine r on arguments a, with locals l and after m steps.
use Rattle.std.specs.Prelude.{◌≡◌, ℕ, ◌+◌, ◌≤◌, List, [], length, Result, IfOk, IsOk}
use Rattle.mh_code.specs.Routine.{Source, Routine}
use Rattle.mh_code.specs.inner.Runs.{source_outcome, source_steps, source_weight, run_routine, routine_steps, weight}
use Rattle.mh_code.specs.inner.Scope.{IsRoutineIn}
use Rattle.mh_eval.specs.Answers.{Ran}
use Rattle.mh_run.specs.inner.Limits.{lower_room}
use Rattle.mh_eval.specs.Quiet.{IsAnswered}
use Rattle.mh_eval.specs.declared.answer.Answer.{Answer}
use Rattle.mh_eval.specs.declared.answer.Answer.TheVariants.{Thrown, NoMemory}
use Rattle.mh_run.specs.inner.Quiet.{IsSourceQuiet, IsRoutineQuiet, slots}
use Rattle.mh_tree.specs.Sites.{Setting, env, MayCall, most_at, greatest_steps}
use Rattle.mh_type.specs.declared.outcome.Outcome.{Outcome}
use Rattle.mh_type.specs.declared.outcome.Outcome.TheVariants as outcome
use Rattle.mh_type.specs.declared.value.Value.{Value}

-- an answer without a value, of an outcome
abbrev pub Stops : Answer → Outcome → Type 0
Stops (Thrown t) o = o ≡ outcome.Thrown t
Stops NoMemory o = Unit {0}
Stops _ o = ⊥

-- a source's answer, and the steps that it takes besides those of its piece
pub record Answers (v : Setting) (a l : List Value) (x : Source) (r : Answer) (n : ℕ) : Type 0 where
  pub ran : Ran r n (source_outcome (env v) x a l) (source_steps (env v) x a l)
  pub few : n ≤ source_weight (most_at v.level) x
  pub quiet : IsSourceQuiet v x a l → IsAnswered r

-- it names only existing operands, points and sites, its steps can be counted, and its locals have room
pub record MayRun (v : Setting) (a l : List Value) (r : Routine) (m : ℕ) : Type 0 where
  pub scoped : IsRoutineIn (MayCall v.level v.targets (length v.valid)) (length v.valid) (length a) (length l) r
  pub few : m + weight (most_at v.level) r ≤ greatest_steps
  pub room : slots r ≤ lower_room

-- an answer after n steps in all; a quiet routine is never refused memory
pub record Ends (v : Setting) (a l : List Value) (r : Routine) (m : ℕ) (x : Answer) (n : ℕ) : Type 0 where
  pub ran : Ran x n (run_routine (env v) r a l) (m + routine_steps (env v) r a l)
  pub few : n ≤ m + weight (most_at v.level) r
  pub quiet : IsRoutineQuiet v r a l → IsAnswered x

-- routine q, with locals k and after n steps, does the rest
pub record Leaves (v : Setting) (a l : List Value) (r : Routine) (m : ℕ) (k : List Value) (q : Routine) (n : ℕ) : Type 0 where
  pub outcome : run_routine (env v) q a k ≡ run_routine (env v) r a l
  pub steps : n + routine_steps (env v) q a k ≡ m + routine_steps (env v) r a l
  pub few : n + weight (most_at v.level) q ≤ m + weight (most_at v.level) r
  pub may : MayRun v a k q n
  pub quiet : IsRoutineQuiet v r a l → IsRoutineQuiet v q a k
  pub own : weight 0 q ≤ weight 0 r

-- the greatest number of nodes of the trees that are evaluated one after another, each in place of the one before
abbrev pub most_own : ℕ
most_own = 1310720

-- MayRun after m steps of its own only, which a word counts
pub record MayGo (v : Setting) (a l : List Value) (r : Routine) (m : ℕ) : Type 0 where
  pub run : MayRun v a l r m
  pub own : m + weight 0 r ≤ most_own

-- Leaves, with no step of an invocation
pub record Goes (v : Setting) (a l : List Value) (r : Routine) (m : ℕ) (k : List Value) (q : Routine) (n : ℕ) : Type 0 where
  pub leaves : Leaves v a l r m k q n
  pub own : n + weight 0 q ≤ m + weight 0 r

-- running routine q in w on arguments b, after n steps, does what running r in v on a does after m
pub record GoesOn (v : Setting) (a : List Value) (r : Routine) (m : ℕ) (w : Setting) (b : List Value) (q : Routine) (n : ℕ) : Type 0 where
  pub outcome : run_routine (env w) q b [] ≡ run_routine (env v) r a []
  pub steps : n + routine_steps (env w) q b [] ≡ m + routine_steps (env v) r a []
  pub few : n + weight (most_at w.level) q ≤ m + weight (most_at v.level) r
  pub may : MayGo w b [] q n
  pub quiet : IsRoutineQuiet v r a [] → IsRoutineQuiet w q b []

-- a routine's outcome and all steps; if it is quiet, it is not refused memory
pub record Told {E : Type 0} (x : Result (Outcome × ℕ) E) (v : Setting) (a : List Value) (r : Routine) (m : ℕ) : Type 0 where
  pub outcome : IfOk x (λ y. y.0 ≡ run_routine (env v) r a [])
  pub steps : IfOk x (λ y. y.1 ≡ m + routine_steps (env v) r a [])
  pub few : IfOk x (λ y. y.1 ≤ m + weight (most_at v.level) r)
  pub quiet : IsRoutineQuiet v r a [] → IsOk x
