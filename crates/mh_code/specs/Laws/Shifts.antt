-- Steps before code may be counted in the code or before it.
use Rattle.std.proofs.Common.{◌≡◌, Bool, true, false, if◌then◌else◌, ℕ, ◌+◌, refl, ap, sym, ◌∙◌, List, [], ◌∷◌, ◌++◌, take, drop, map, length, arith, zero-add}
use Rattle.mh_type.specs.Operations.{op_signature}
use Rattle.mh_tree.specs.Code.{Code, leaf, apply, bind, branch, point as point_code, invoke as code_invoke}
use Rattle.mh_tree.specs.Prepared.{operand_at, prepared, prepared_filters}
use Rattle.mh_tree.specs.Tree.{Tree, Filters, constant, identity, operation as operation_tree, insert, discard, permute, filter, filter_return, fold, guard, point, invoke, no_more, absent, present}
use Rattle.mh_tree.specs.declared.operand.Operand.{Operand}
use Rattle.mh_tree.specs.declared.operand.Operand.TheVariants.{Constant}
use Rattle.mh_code.specs.Routine.{Source, operand, operation, invocation, Routine, give, keep, pick, point as routine_point, Purpose, answer, local, truth, untruth}
use Rattle.mh_code.specs.RoutineOf.{gives_truth, tested, negated_local, negated, used, routine, after_steps}

-- the same code with as many steps before it
same_steps : (c : Code) (d s m : ℕ) (u : Purpose) → s ≡ m → routine c d s u ≡ routine c d m u
same_steps c d s m u same = ap (λ i. routine c d i u) same

mutual
  pub shifts : (t : Tree) (env : List Operand) (d s m : ℕ) (u : Purpose) → routine (prepared t env d s) d m u ≡ routine (prepared t env d 0) d (m + s) u
  shifts (constant x) env d s m u = ap (λ i. used d i (operand (Constant x)) u) (omega arith)
  shifts (identity k) env d s m u = ap (λ i. used d i (operand (operand_at env 0)) u) (omega arith)
  shifts (operation_tree o) env d s m u =
      let read = take (length (op_signature o).parameters) env in
      ap (λ i. used d i (operation o (operand_at read 0) (operand_at read 1)) u) (omega arith)
  shifts (insert t p xs) env d s m u =
      let inner = take p env ++ (map Constant xs ++ drop p env) in
      shifts t inner d (s + 1) m u
      ∙ same_steps (prepared t inner d 0) d (m + (s + 1)) ((m + s) + (0 + 1)) u (omega arith)
      ∙ sym (shifts t inner d (0 + 1) (m + s) u)
  shifts (discard t p ks) env d s m u =
      let inner = take p env ++ drop (p + length ks) env in
      shifts t inner d (s + 1) m u
      ∙ same_steps (prepared t inner d 0) d (m + (s + 1)) ((m + s) + (0 + 1)) u (omega arith)
      ∙ sym (shifts t inner d (0 + 1) (m + s) u)
  shifts (permute t n r) env d s m u =
      let inner = map (operand_at env) r in
      shifts t inner d (s + 1) m u
      ∙ same_steps (prepared t inner d 0) d (m + (s + 1)) ((m + s) + (0 + 1)) u (omega arith)
      ∙ sym (shifts t inner d (0 + 1) (m + s) u)
  shifts (filter t p fs) env d s m u =
      shifts_filters fs p env d (s + 1) m u (prepared t) (λ env' d' s' m'. shifts t env' d' s' m' u)
      ∙ same_steps (prepared_filters fs p env d 0 (prepared t)) d (m + (s + 1)) ((m + s) + (0 + 1)) u (omega arith)
      ∙ sym (shifts_filters fs p env d (0 + 1) (m + s) u (prepared t) (λ env' d' s' m'. shifts t env' d' s' m' u))
  shifts (filter_return t f) env d s m u = same_steps (prepared t env d 0) d _ _ _ (omega arith)
  shifts (fold t c) env d s m u = same_steps (prepared c env d 0) d _ _ _ (omega arith)
  shifts (guard c x y) env d s m u = same_steps (prepared c env d 0) d _ _ _ (omega arith)
  shifts (point p x y) env d s m u = ap (λ i. routine_point i p (routine (prepared x env d 0) d 0 u) (routine (prepared y env d 0) d 0 u)) (omega arith)
  shifts (invoke k n) env d s m u = ap (λ i. used d i (invocation k (take (length n.parameters) env)) u) (omega arith)

  shifts_filters : (fs : Filters) (p : ℕ) (env : List Operand) (d s m : ℕ) (u : Purpose) (go : List Operand → ℕ → ℕ → Code) → ((env' : List Operand) (d' s' m' : ℕ) → routine (go env' d' s') d' m' u ≡ routine (go env' d' 0) d' (m' + s') u) → routine (prepared_filters fs p env d s go) d m u ≡ routine (prepared_filters fs p env d 0 go) d (m + s) u
  shifts_filters no_more p env d s m u go h = h env d s m
  shifts_filters (absent fs) p env d s m u go h = shifts_filters fs (p + 1) env d s m u go h
  shifts_filters (present f fs) p env d s m u go h = same_steps (prepared f (operand_at env p ∷ []) d 0) d _ _ _ (omega arith)

-- steps may be added to those of the first piece
tested_after : (d s m : ℕ) (x : Source) (r q : Routine) → tested d (s + m) x r q ≡ after_steps s (tested d m x r q)
tested_after d s m (operand o) r q = refl
tested_after d s m (operation op x y) r q = refl
tested_after d s m (invocation site os) r q = refl

negated_after : (d s m : ℕ) (x : Source) (r q : Routine) → negated d (s + m) x r q ≡ after_steps s (negated d m x r q)
negated_after d s m (operand o) r q = refl
negated_after d s m (operation op x y) r q = by (gives_truth op)
  where
    by : (b : Bool) → (if b then pick ((s + m) + 1) (operation op x y) q r else keep (s + m) (operation op x y) d (negated_local d r q)) ≡ after_steps s (if b then pick (m + 1) (operation op x y) q r else keep m (operation op x y) d (negated_local d r q))
    by true = ap (λ i. pick i (operation op x y) q r) (omega arith)
    by false = refl
negated_after d s m (invocation site os) r q = refl

used_after : (d s m : ℕ) (x : Source) (u : Purpose) → used d (s + m) x u ≡ after_steps s (used d m x u)
used_after d s m x answer = refl
used_after d s m x (local i r) = refl
used_after d s m x (truth r q) = tested_after d s m x r q
used_after d s m x (untruth r q) = negated_after d s m x r q

pub routine_after : (c : Code) (d s m : ℕ) (u : Purpose) → routine c d (s + m) u ≡ after_steps s (routine c d m u)
routine_after (leaf n o) d s m u = ap (λ i. used d i (operand o) u) (omega arith) ∙ used_after d s (m + n) (operand o) u
routine_after (apply n op x y) d s m u = ap (λ i. used d i (operation op x y) u) (omega arith) ∙ used_after d s (m + n) (operation op x y) u
routine_after (bind n f c) d s m u = same_steps f d ((s + m) + n) (s + (m + n)) _ (omega arith) ∙ routine_after f d s (m + n) _
routine_after (branch n c x y) d s m u = same_steps c d ((s + m) + n) (s + (m + n)) _ (omega arith) ∙ routine_after c d s (m + n) _
routine_after (point_code n p x y) d s m u = ap (λ i. routine_point i p (routine x d 0 u) (routine y d 0 u)) (omega arith)
routine_after (code_invoke n site os) d s m u = ap (λ i. used d i (invocation site os) u) (omega arith) ∙ used_after d s (m + n) (invocation site os) u

-- no steps
pub no_steps : (r : Routine) → after_steps 0 r ≡ r
no_steps (give n x) = ap (λ i. give i x) (zero-add n)
no_steps (keep n x i r) = ap (λ j. keep j x i r) (zero-add n)
no_steps (pick n x r q) = ap (λ i. pick i x r q) (zero-add n)
no_steps (routine_point n p r q) = ap (λ i. routine_point i p r q) (zero-add n)
