-- The outcome and the steps of prepared code in an environment v with arguments a and locals l.
use Rattle.std.specs.Prelude.{ℕ, ◌+◌, List, [], ◌∷◌, ◌++◌, map, if◌then◌else◌}
use Rattle.mh_type.specs.declared.value.Value.{Value}
use Rattle.mh_type.specs.declared.outcome.Outcome.{Outcome}
use Rattle.mh_type.specs.declared.outcome.Outcome.TheVariants as outcome
use Rattle.mh_type.specs.Operations.{operate}
use Rattle.mh_tree.specs.Meaning.{◌>>=◌, argument, choose, choose_steps, after, is_valid}
use Rattle.mh_tree.specs.Environment.{Environment, Steps}
use Rattle.mh_tree.specs.Code.{Code, leaf, apply, bind, branch, point, invoke}
use Rattle.mh_tree.specs.declared.operand.Operand.{Operand}
use Rattle.mh_tree.specs.declared.operand.Operand.TheVariants.{Argument, Local, Constant}

-- the value of an operand
abbrev pub value_of : List Value → List Value → Operand → Value
value_of a l (Argument i) = argument a i
value_of a l (Local i) = argument l i
value_of a l (Constant x) = x

abbrev pub run_code : Environment → Code → List Value → List Value → Outcome
run_code v (leaf s o) a l = outcome.Value (value_of a l o)
run_code v (apply s op x y) a l = operate op (value_of a l x ∷ value_of a l y ∷ [])
run_code v (bind s f g) a l = do
  x ← run_code v f a l
  run_code v g a (l ++ x ∷ [])
run_code v (branch s c x y) a l = do
  b ← run_code v c a l
  choose b (run_code v x a l) (run_code v y a l)
run_code v (point s p x y) a l = if is_valid v p then run_code v x a l else run_code v y a l
run_code v (invoke s k os) a l = v.calls k (map (value_of a l) os)

-- the steps of the code
abbrev pub code_steps : Environment → Code → List Value → List Value → Steps
code_steps v (leaf s o) a l = s
code_steps v (apply s op x y) a l = s
code_steps v (bind s f g) a l = s + (code_steps v f a l + after (run_code v f a l) (λ x. code_steps v g a (l ++ x ∷ [])))
code_steps v (branch s c x y) a l =
    s + (code_steps v c a l + after (run_code v c a l) (λ b. choose_steps b (code_steps v x a l) (code_steps v y a l)))
code_steps v (point s p x y) a l = s + (if is_valid v p then code_steps v x a l else code_steps v y a l)
code_steps v (invoke s k os) a l = s + v.call_steps k (map (value_of a l) os)

-- all steps together, if an invocation takes at most n besides its own
abbrev pub weight : ℕ → Code → ℕ
weight n (leaf s o) = s
weight n (apply s op x y) = s
weight n (bind s f g) = s + (weight n f + weight n g)
weight n (branch s c x y) = s + (weight n c + (weight n x + weight n y))
weight n (point s p x y) = s + (weight n x + weight n y)
weight n (invoke s k os) = s + n
