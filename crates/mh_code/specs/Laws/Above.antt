-- A routine reads the locals that it names, whatever locals are above them.
use Rattle.std.proofs.Common.{◌≡◌, ℕ, ◌+◌, ◌≤◌, refl, ap, List, [], ◌∷◌, ◌++◌, map, length, arith, if◌then◌else◌}
use Rattle.std.proofs.lemmas.List.{take-append-le}
use Rattle.mh_type.specs.declared.value.Value.{Value}
use Rattle.mh_type.specs.Operations.{operate}
use Rattle.mh_type.specs.declared.operation.Op.TheVariants.{Not}
use Rattle.mh_tree.specs.Environment.{Environment}
use Rattle.mh_tree.specs.Laws.{argument_more}
use Rattle.mh_tree.specs.Meaning.{◌>>=◌, choose, choose_steps, after, is_valid}
use Rattle.mh_tree.specs.Running.{value_of}
use Rattle.mh_tree.specs.inner.Scoped.{IsIn, AllIn}
use Rattle.mh_tree.specs.declared.operand.Operand.{Operand}
use Rattle.mh_tree.specs.declared.operand.Operand.TheVariants.{Argument, Local, Constant}
use Rattle.mh_code.specs.Routine.{Source, operand, operation, invocation, Routine, give, keep, pick, point, Purpose, answer, local, truth, untruth}
use Rattle.mh_code.specs.inner.Runs.{source_outcome, source_steps, put, run_routine, routine_steps, purpose_outcome, purpose_steps}
use Rattle.mh_code.specs.inner.Scope.{IsSourceIn, IsRoutineIn, IsPurposeIn}

module _ (C : ℕ → ℕ → Type 0) (k n d : ℕ) (v : Environment) (a l m : List Value) (deep : d ≤ length l) where
  pub value_above : (o : Operand) → IsIn n d o → value_of a (l ++ m) o ≡ value_of a l o
  value_above (Argument i) h = refl
  value_above (Local i) h = argument_more l m i (omega (arith, h, deep))
  value_above (Constant x) h = refl

  pub values_above : (os : List Operand) → AllIn n d os → map (value_of a (l ++ m)) os ≡ map (value_of a l) os
  values_above [] h = refl
  values_above (o ∷ os) (p, ps) = λ i. value_above o p i ∷ values_above os ps i

  pub source_above : (x : Source) → IsSourceIn C n d x → source_outcome v x a (l ++ m) ≡ source_outcome v x a l
  source_above (operand o) h = λ i. source_outcome v (operand (Constant (value_above o h i))) a l
  source_above (operation op x y) h = λ i. operate op (value_above x h.0 i ∷ value_above y h.1 i ∷ [])
  source_above (invocation s os) h = ap (v.calls s) (values_above os h.1)

  source_steps_above : (x : Source) → IsSourceIn C n d x → source_steps v x a (l ++ m) ≡ source_steps v x a l
  source_steps_above (operand o) h = refl
  source_steps_above (operation op x y) h = refl
  source_steps_above (invocation s os) h = ap (v.call_steps s) (values_above os h.1)

  pub put_above : (i : ℕ) (x : Value) → i ≤ d → put (l ++ m) i x ≡ put l i x
  put_above i x h = ap (λ t. t ++ x ∷ []) (take-append-le i l m (omega (arith, h, deep)))

  pub routine_above : (r : Routine) → IsRoutineIn C k n d r → run_routine v r a (l ++ m) ≡ run_routine v r a l
  routine_above (give s x) h = source_above x h
  routine_above (keep s x i r) h = λ j. source_above x h.0 j >>= (λ y. run_routine v r a (put_above i y h.1 j))
  routine_above (pick s x r q) h = λ j. source_above x h.0 j >>= (λ b. choose b (routine_above r h.1 j) (routine_above q h.2 j))
  routine_above (point s p r q) h = λ j. if is_valid v p then routine_above r h.1 j else routine_above q h.2 j

  pub routine_steps_above : (r : Routine) → IsRoutineIn C k n d r → routine_steps v r a (l ++ m) ≡ routine_steps v r a l
  routine_steps_above (give s x) h = ap (λ i. s + i) (source_steps_above x h)
  routine_steps_above (keep s x i r) h =
      λ j. s + (source_steps_above x h.0 j + after (source_above x h.0 j) (λ y. routine_steps v r a (put_above i y h.1 j)))
  routine_steps_above (pick s x r q) h =
      λ j. s + (source_steps_above x h.0 j + after (source_above x h.0 j) (λ b. choose_steps b (routine_steps_above r h.1 j) (routine_steps_above q h.2 j)))
  routine_steps_above (point s p r q) h = λ j. s + (if is_valid v p then routine_steps_above r h.1 j else routine_steps_above q h.2 j)

  pub purpose_above : (u : Purpose) (x : Value) → IsPurposeIn C k n d u → purpose_outcome v u a (l ++ m) x ≡ purpose_outcome v u a l x
  purpose_above answer x h = refl
  purpose_above (local i r) x h = ap (run_routine v r a) (put_above i x h.0)
  purpose_above (truth r q) x h = λ j. choose x (routine_above r h.0 j) (routine_above q h.1 j)
  purpose_above (untruth r q) x h = λ j. operate Not (x ∷ []) >>= (λ b. choose b (routine_above r h.0 j) (routine_above q h.1 j))

  pub purpose_steps_above : (u : Purpose) (x : Value) → IsPurposeIn C k n d u → purpose_steps v u a (l ++ m) x ≡ purpose_steps v u a l x
  purpose_steps_above answer x h = refl
  purpose_steps_above (local i r) x h = ap (routine_steps v r a) (put_above i x h.0)
  purpose_steps_above (truth r q) x h = λ j. choose_steps x (routine_steps_above r h.0 j) (routine_steps_above q h.1 j)
  purpose_steps_above (untruth r q) x h =
      λ j. 1 + after (operate Not (x ∷ [])) (λ b. choose_steps b (routine_steps_above r h.0 j) (routine_steps_above q h.1 j))
