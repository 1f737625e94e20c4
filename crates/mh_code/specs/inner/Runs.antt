-- The outcome and the steps of a routine in an environment v with arguments a and locals l.
use Rattle.std.specs.Prelude.{ℕ, ◌+◌, max, List, [], ◌∷◌, ◌++◌, map, take, if◌then◌else◌}
use Rattle.mh_type.specs.declared.value.Value.{Value}
use Rattle.mh_type.specs.declared.outcome.Outcome.{Outcome}
use Rattle.mh_type.specs.declared.outcome.Outcome.TheVariants as outcome
use Rattle.mh_type.specs.Operations.{operate}
use Rattle.mh_type.specs.declared.operation.Op.TheVariants.{Not}
use Rattle.mh_tree.specs.Meaning.{◌>>=◌, choose, choose_steps, after, is_valid}
use Rattle.mh_tree.specs.Environment.{Environment, Steps}
use Rattle.mh_tree.specs.Running.{value_of}
use Rattle.mh_code.specs.Routine.{Source, operand, operation, invocation, Routine, give, keep, pick, point, Purpose, answer, local, truth, untruth}

abbrev pub source_outcome : Environment → Source → List Value → List Value → Outcome
source_outcome v (operand o) a l = outcome.Value (value_of a l o)
source_outcome v (operation op x y) a l = operate op (value_of a l x ∷ value_of a l y ∷ [])
source_outcome v (invocation s os) a l = v.calls s (map (value_of a l) os)

abbrev pub source_steps : Environment → Source → List Value → List Value → Steps
source_steps v (operand o) a l = 0
source_steps v (operation op x y) a l = 0
source_steps v (invocation s os) a l = v.call_steps s (map (value_of a l) os)

-- the locals before an index, followed by a value
abbrev pub put : List Value → ℕ → Value → List Value
put l i x = take i l ++ x ∷ []

abbrev pub run_routine : Environment → Routine → List Value → List Value → Outcome
run_routine v (give s x) a l = source_outcome v x a l
run_routine v (keep s x i r) a l = do
  y ← source_outcome v x a l
  run_routine v r a (put l i y)
run_routine v (pick s x r q) a l = do
  b ← source_outcome v x a l
  choose b (run_routine v r a l) (run_routine v q a l)
run_routine v (point s p r q) a l = if is_valid v p then run_routine v r a l else run_routine v q a l

-- the steps that it takes
abbrev pub routine_steps : Environment → Routine → List Value → List Value → Steps
routine_steps v (give s x) a l = s + source_steps v x a l
routine_steps v (keep s x i r) a l =
    s + (source_steps v x a l + after (source_outcome v x a l) (λ y. routine_steps v r a (put l i y)))
routine_steps v (pick s x r q) a l =
    s + (source_steps v x a l + after (source_outcome v x a l) (λ b. choose_steps b (routine_steps v r a l) (routine_steps v q a l)))
routine_steps v (point s p r q) a l = s + (if is_valid v p then routine_steps v r a l else routine_steps v q a l)

-- the outcome of the use of a value
abbrev pub purpose_outcome : Environment → Purpose → List Value → List Value → Value → Outcome
purpose_outcome v answer a l x = outcome.Value x
purpose_outcome v (local i r) a l x = run_routine v r a (put l i x)
purpose_outcome v (truth r q) a l x = choose x (run_routine v r a l) (run_routine v q a l)
purpose_outcome v (untruth r q) a l x = do
  b ← operate Not (x ∷ [])
  choose b (run_routine v r a l) (run_routine v q a l)

-- the steps of that use
abbrev pub purpose_steps : Environment → Purpose → List Value → List Value → Value → Steps
purpose_steps v answer a l x = 0
purpose_steps v (local i r) a l x = routine_steps v r a (put l i x)
purpose_steps v (truth r q) a l x = choose_steps x (routine_steps v r a l) (routine_steps v q a l)
purpose_steps v (untruth r q) a l x =
    1 + after (operate Not (x ∷ [])) (λ b. choose_steps b (routine_steps v r a l) (routine_steps v q a l))

-- the greatest number of steps of a source, if an invocation takes at most n
abbrev pub source_weight : ℕ → Source → ℕ
source_weight n (operand o) = 0
source_weight n (operation op x y) = 0
source_weight n (invocation s os) = n

-- the steps of the longest way through a routine
abbrev pub weight : ℕ → Routine → ℕ
weight n (give s x) = s + source_weight n x
weight n (keep s x i r) = s + (source_weight n x + weight n r)
weight n (pick s x r q) = s + (source_weight n x + max (weight n r) (weight n q))
weight n (point s p r q) = s + max (weight n r) (weight n q)

-- the steps of the longest way through the use of a value
abbrev pub purpose_weight : ℕ → Purpose → ℕ
purpose_weight n answer = 0
purpose_weight n (local i r) = weight n r
purpose_weight n (truth r q) = max (weight n r) (weight n q)
purpose_weight n (untruth r q) = 1 + max (weight n r) (weight n q)
