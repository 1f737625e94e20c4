-- The routine of quiet code is quiet if the use of its value is.
use Rattle.std.proofs.Common.{◌≡◌, Bool, true, false, ℕ, ◌+◌, ◌≤◌, refl, sym, subst, List, [], ◌∷◌, ◌++◌, length, length-append, arith, if◌then◌else◌}
use Rattle.std.specs.Prelude.{max}
use Rattle.mh_code.specs.Routine.{Source, operand, operation, invocation, Routine, give, keep, pick, point, Purpose, answer, local, truth, untruth}
use Rattle.mh_code.specs.RoutineOf.{gives_truth, tested, negated_local, negated, used, bound, routine}
use Rattle.mh_code.specs.inner.Runs.{source_outcome, put}
use Rattle.mh_code.specs.inner.Scope.{IsSourceIn, IsRoutineIn, IsPurposeIn}
use Rattle.mh_code.specs.Laws.Above.{put_above, source_above, value_above, values_above}
use Rattle.mh_code.specs.Laws.Means.{newest, put_last}
use Rattle.mh_code.specs.Laws.Scoped.{bound_in, routine_in, purpose_more}
use Rattle.mh_code.specs.Laws.Truths.{bound_by, last_local, true_or_false}
use Rattle.mh_eval.specs.Entered.{WithValue, Chosen, OneOf, plain_below}
use Rattle.mh_eval.specs.Quiet.{IsQuiet, NoTexts, deep}
use Rattle.mh_run.specs.inner.Quiet.{IsSourceQuiet, IsTestQuiet, IsRoutineQuiet, IsPurposeQuiet, slots, purpose_slots}
use Rattle.mh_tree.specs.Code.{Code, leaf, apply, bind, branch, point as point_code, invoke}
use Rattle.mh_tree.specs.Meaning.{◌>>=◌, choose, is_valid}
use Rattle.mh_tree.specs.Running.{run_code, value_of}
use Rattle.mh_tree.specs.inner.Scoped.{IsScoped}
use Rattle.mh_tree.specs.Sites.{Setting, env}
use Rattle.mh_tree.specs.declared.operand.Operand.TheVariants.{Local}
use Rattle.mh_type.specs.Kinds.{kind_of}
use Rattle.mh_type.specs.declared.kind.Kind.TheVariants as kind
use Rattle.mh_type.specs.Operations.{operate}
use Rattle.mh_type.specs.declared.operation.Op.TheVariants.{Concat, Not}
use Rattle.mh_type.specs.declared.outcome.Outcome.{Outcome}
use Rattle.mh_type.specs.declared.outcome.Outcome.TheVariants as outcome
use Rattle.mh_type.specs.declared.value.Value.{Value}
use Rattle.mh_type.specs.declared.value.Value.TheVariants as value

-- a fact of a value, from a fact of it and of what follows
in_turn : (o : Outcome) (h : Value → Outcome) (E P Q : Value → Type 0) → WithValue o E → WithValue (o >>= h) P → ((x : Value) → E x → WithValue (h x) P → Q x) → WithValue o Q
in_turn (outcome.Value x) h E P Q e p k = k x e p
in_turn (outcome.Thrown t) h E P Q e p k = tt

-- a fact that depends only on a truth's kind
chosen : (b : Value) (x y : Outcome) (E F G H : Type 0) (P : Value → Type 0) → Chosen b E F → WithValue (choose b x y) P → (E → WithValue x P → G) → (F → WithValue y P → H) → Chosen b G H
chosen (value.Boolean true) x y E F G H P e p j k = j e p
chosen (value.Boolean false) x y E F G H P e p j k = k e p
chosen (value.Int i) x y E F G H P e p j k = k e p
chosen (value.Long i) x y E F G H P e p j k = k e p
chosen (value.Text s) x y E F G H P e p j k = k e p

one : (b : Bool) (x y : Outcome) (E F G H : Type 0) (P : Value → Type 0) → OneOf b E F → WithValue (if b then x else y) P → (E → WithValue x P → G) → (F → WithValue y P → H) → OneOf b G H
one true x y E F G H P e p j k = j e p
one false x y E F G H P e p j k = k e p

with_map : (o : Outcome) (P Q : Value → Type 0) → ((x : Value) → P x → Q x) → WithValue o P → WithValue o Q
with_map (outcome.Value x) P Q k h = k x h
with_map (outcome.Thrown t) P Q k h = tt

chosen_map : (b : Value) (E F G H : Type 0) → (E → G) → (F → H) → Chosen b E F → Chosen b G H
chosen_map (value.Boolean true) E F G H j k h = j h
chosen_map (value.Boolean false) E F G H j k h = k h
chosen_map (value.Int i) E F G H j k h = k h
chosen_map (value.Long i) E F G H j k h = k h
chosen_map (value.Text s) E F G H j k h = k h

one_map : (b : Bool) (E F G H : Type 0) → (E → G) → (F → H) → OneOf b E F → OneOf b G H
one_map true E F G H j k h = j h
one_map false E F G H j k h = k h

-- a truth chooses the other way if its `not` does
denied : (b : Bool) (E F : Type 0) → WithValue (operate Not (value.Boolean b ∷ [])) (λ c. Chosen c E F) → Chosen (value.Boolean b) F E
denied true E F h = h
denied false E F h = h

not_concat : Not ≡ Concat → ⊥
not_concat h = cc

-- a quiet part remains quiet below more locals
module _ (C : ℕ → ℕ → Type 0) (k n d : ℕ) (v : Setting) (a l m : List Value) (deep_enough : d ≤ length l) where
  source_still : (x : Source) → IsSourceIn C n d x → IsSourceQuiet v x a l → IsSourceQuiet v x a (l ++ m)
  source_still (operand o) h q = subst (λ y. kind_of y ≡ kind.Text → ⊥) (sym (value_above C k n d (env v) a l m deep_enough o h)) q
  source_still (operation op x y) h q = q
  source_still (invocation s os) h q =
      subst (λ b. NoTexts b × plain_below v.level v.valid v.targets s b) (sym (values_above C k n d (env v) a l m deep_enough os h.1)) q

  test_still : (x : Source) → IsSourceIn C n d x → IsTestQuiet v x a l → IsTestQuiet v x a (l ++ m)
  test_still (operand o) h q = tt
  test_still (operation op x y) h q = q
  test_still (invocation s os) h q = source_still (invocation s os) h q

  kept_still : (x : Source) → IsSourceIn C n d x → (P : Value → Type 0) → WithValue (source_outcome (env v) x a l) P → WithValue (source_outcome (env v) x a (l ++ m)) P
  kept_still x h P q = subst (λ o. WithValue o P) (sym (source_above C k n d (env v) a l m deep_enough x h)) q

  put_still : (i : ℕ) → i ≤ d → (r : Routine) (y : Value) → IsRoutineQuiet v r a (put l i y) → IsRoutineQuiet v r a (put (l ++ m) i y)
  put_still i h r y q = subst (λ t. IsRoutineQuiet v r a t) (sym (put_above C k n d (env v) a l m deep_enough i y h)) q

  routine_still : (r : Routine) → IsRoutineIn C k n d r → IsRoutineQuiet v r a l → IsRoutineQuiet v r a (l ++ m)
  routine_still (give s x) h q = source_still x h q
  routine_still (keep s x i r) h q =
      (source_still x h.0 q.0, with_map _ _ _ (λ y. put_still i h.1 r y) (kept_still x h.0 (λ y. IsRoutineQuiet v r a (put l i y)) q.1))
  routine_still (pick s x r r') h q = (
    test_still x h.0 q.0,
    with_map _ _ _ (λ b. chosen_map b _ _ _ _ (routine_still r h.1) (routine_still r' h.2))
        (kept_still x h.0 (λ b. Chosen b (IsRoutineQuiet v r a l) (IsRoutineQuiet v r' a l)) q.1),
  )
  routine_still (point s p r r') h q = one_map (is_valid (env v) p) _ _ _ _ (routine_still r h.1) (routine_still r' h.2) q

  purpose_still : (u : Purpose) (x : Value) → IsPurposeIn C k n d u → IsPurposeQuiet v u a l x → IsPurposeQuiet v u a (l ++ m) x
  purpose_still answer x h q = tt
  purpose_still (local i r) x h q = put_still i h.0 r x q
  purpose_still (truth r r') x h q = chosen_map x _ _ _ _ (routine_still r h.0) (routine_still r' h.1) q
  purpose_still (untruth r r') x h q =
      with_map (operate Not (x ∷ [])) _ _ (λ b. chosen_map b _ _ _ _ (routine_still r h.0) (routine_still r' h.1)) q

module _ (C : ℕ → ℕ → Type 0) (k n : ℕ) (v : Setting) (a : List Value) where
  test_quiet : (x : Source) (l : List Value) → IsSourceQuiet v x a l → IsTestQuiet v x a l
  test_quiet (operand o) l q = tt
  test_quiet (operation op x y) l q = q
  test_quiet (invocation s os) l q = q

  tested_quiet : (d s : ℕ) (x : Source) (r r' : Routine) (l : List Value) → IsPurposeIn C k n d (truth r r') → d ≡ length l → IsSourceQuiet v x a l → WithValue (source_outcome (env v) x a l) (IsPurposeQuiet v (truth r r') a l) → IsRoutineQuiet v (tested d s x r r') a l
  tested_quiet d s (operand o) r r' l h deep_enough q p = (test_quiet (operand o) l q, p)
  tested_quiet d s (operation op x y) r r' l h deep_enough q p = (q, p)
  tested_quiet d s (invocation site os) r r' l h deep_enough q p = (
    q,
    with_map _ _ (λ x. IsRoutineQuiet v (pick 0 (operand (Local d)) r r') a (put l d x))
        (λ x e. (
          tt,
          subst (λ y. Chosen y (IsRoutineQuiet v r a (put l d x)) (IsRoutineQuiet v r' a (put l d x))) (sym (newest a l d x deep_enough))
              (subst (λ t. Chosen x (IsRoutineQuiet v r a t) (IsRoutineQuiet v r' a t)) (sym (put_last l d x deep_enough))
              (purpose_still C k n d v a l (x ∷ []) (omega (arith, deep_enough)) (truth r r') x h e)),
        ))
        p,
  )

  -- a value that is stored and then negated
  kept_quiet : (d s : ℕ) (x : Source) (r r' : Routine) (l : List Value) → IsPurposeIn C k n d (untruth r r') → d ≡ length l → IsSourceQuiet v x a l → WithValue (source_outcome (env v) x a l) (IsPurposeQuiet v (untruth r r') a l) → IsRoutineQuiet v (keep s x d (negated_local d r r')) a l
  kept_quiet d s x r r' l h deep_enough q p = (
    q,
    with_map _ _ (λ z. IsRoutineQuiet v (negated_local d r r') a (put l d z))
        (λ z e. (
          not_concat,
          subst (λ y. WithValue (operate Not (y ∷ [])) (λ b. Chosen b (IsRoutineQuiet v r a (put l d z)) (IsRoutineQuiet v r' a (put l d z)))) (sym (newest a l d z deep_enough))
              (subst (λ t. WithValue (operate Not (z ∷ [])) (λ b. Chosen b (IsRoutineQuiet v r a t) (IsRoutineQuiet v r' a t))) (sym (put_last l d z deep_enough))
              (purpose_still C k n d v a l (z ∷ []) (omega (arith, deep_enough)) (untruth r r') z h e)),
        ))
        p,
  )

  negated_quiet : (d s : ℕ) (x : Source) (r r' : Routine) (l : List Value) → IsPurposeIn C k n d (untruth r r') → d ≡ length l → IsSourceQuiet v x a l → WithValue (source_outcome (env v) x a l) (IsPurposeQuiet v (untruth r r') a l) → IsRoutineQuiet v (negated d s x r r') a l
  negated_quiet d s (operand o) r r' l h deep_enough q p = kept_quiet d s (operand o) r r' l h deep_enough q p
  negated_quiet d s (operation op x y) r r' l h deep_enough q p = by (gives_truth op) refl
    where
      by : (b : Bool) → gives_truth op ≡ b → IsRoutineQuiet v (if b then pick (s + 1) (operation op x y) r' r else keep s (operation op x y) d (negated_local d r r')) a l
      by true is =
          let it = true_or_false op (value_of a l x) (value_of a l y) is in
          let E : Outcome → Type 0 = λ o. WithValue o (λ b. Chosen b (IsRoutineQuiet v r' a l) (IsRoutineQuiet v r a l)) in
          (q, subst E (sym it.1) (denied it.0 _ _ (subst (λ o. WithValue o (IsPurposeQuiet v (untruth r r') a l)) it.1 p)))
      by false is = kept_quiet d s (operation op x y) r r' l h deep_enough q p
  negated_quiet d s (invocation site os) r r' l h deep_enough q p = kept_quiet d s (invocation site os) r r' l h deep_enough q p

  used_quiet : (d s : ℕ) (x : Source) (u : Purpose) (l : List Value) → IsPurposeIn C k n d u → d ≡ length l → IsSourceQuiet v x a l → WithValue (source_outcome (env v) x a l) (IsPurposeQuiet v u a l) → IsRoutineQuiet v (used d s x u) a l
  used_quiet d s x answer l h deep_enough q p = q
  used_quiet d s x (local i r) l h deep_enough q p = (q, p)
  used_quiet d s x (truth r r') l h deep_enough q p = tested_quiet d s x r r' l h deep_enough q p
  used_quiet d s x (untruth r r') l h deep_enough q p = negated_quiet d s x r r' l h deep_enough q p

  -- the part that follows the first of two parts is quiet if it is quiet as a local
  bound_quiet : (c : Code) (d : ℕ) (u : Purpose) (r : Routine) (l : List Value) (x : Value) → d ≡ length l → IsRoutineQuiet v r a (put l d x) → WithValue (run_code (env v) c a (l ++ x ∷ [])) (IsPurposeQuiet v u a l) → IsPurposeQuiet v (bound d c u r) a l x
  bound_quiet c d u r l x deep_enough h w =
      bound_by (λ e u' z. WithValue (run_code (env v) e a (l ++ x ∷ [])) (IsPurposeQuiet v u' a l) → IsPurposeQuiet v z a l x) d c u r (λ w'. h)
      (λ y y' o. subst (λ z. WithValue (operate Not (z ∷ [])) (λ b. Chosen b (IsRoutineQuiet v y a l) (IsRoutineQuiet v y' a l))) (last_local l d x deep_enough)) w

  pub quiet : (c : Code) (d s : ℕ) (u : Purpose) (l : List Value) → IsScoped C k n d c → IsPurposeIn C k n d u → d ≡ length l → IsQuiet v c a l → WithValue (run_code (env v) c a l) (IsPurposeQuiet v u a l) → IsRoutineQuiet v (routine c d s u) a l
  quiet (leaf m o) d s u l h g e q p = used_quiet d (s + m) (operand o) u l g e q p
  quiet (apply m op x y) d s u l h g e q p = used_quiet d (s + m) (operation op x y) u l g e q p
  quiet (bind m f c) d s u l h g e q p =
      quiet f d (s + m) (bound d c u (routine c (d + 1) 0 u)) l h.0 (bound_in C k n d c u _ (routine_in C k n c (d + 1) 0 u h.1 (purpose_more C k n d u g)) g) e q.0
      (in_turn (run_code (env v) f a l) (λ x. run_code (env v) c a (l ++ x ∷ [])) (λ x. IsQuiet v c a (l ++ x ∷ [])) (IsPurposeQuiet v u a l) _ q.1 p
      (λ x e' w. bound_quiet c d u (routine c (d + 1) 0 u) l x e (subst (λ t. IsRoutineQuiet v (routine c (d + 1) 0 u) a t) (sym (put_last l d x e))
      (quiet c (d + 1) 0 u (l ++ x ∷ []) h.1 (purpose_more C k n d u g) (simp length-append (omega (arith, e))) e'
      (with_map _ _ _ (λ y. purpose_still C k n d v a l (x ∷ []) (omega (arith, e)) u y g) w))) w))
  quiet (branch m c x y) d s u l h g e q p =
      quiet c d (s + m) (truth (routine x d 0 u) (routine y d 0 u)) l h.0 (routine_in C k n x d 0 u h.1 g, routine_in C k n y d 0 u h.2 g) e q.0
      (in_turn (run_code (env v) c a l) (λ b. choose b (run_code (env v) x a l) (run_code (env v) y a l)) (λ b. Chosen b (IsQuiet v x a l) (IsQuiet v y a l)) (IsPurposeQuiet v u a l) _ q.1 p
      (λ b e' w. chosen b (run_code (env v) x a l) (run_code (env v) y a l) _ _ _ _ _ e' w (quiet x d 0 u l h.1 g e) (quiet y d 0 u l h.2 g e)))
  quiet (point_code m j x y) d s u l h g e q p =
      one (is_valid (env v) j) (run_code (env v) x a l) (run_code (env v) y a l) _ _ _ _ _ q p (quiet x d 0 u l h.1 g e) (quiet y d 0 u l h.2 g e)
  quiet (invoke m site os) d s u l h g e q p = used_quiet d (s + m) (invocation site os) u l g e q p

-- it takes one slot more than the code has locals at once
tested_slots : (d s : ℕ) (x : Source) (r q : Routine) → slots (tested d s x r q) ≤ max (d + 1) (max (slots r) (slots q))
tested_slots d s (operand o) r q = omega arith
tested_slots d s (operation op x y) r q = omega arith
tested_slots d s (invocation site os) r q = omega arith

negated_slots : (d s : ℕ) (x : Source) (r q : Routine) → slots (negated d s x r q) ≤ max (d + 1) (max (slots r) (slots q))
negated_slots d s (operand o) r q = omega arith
negated_slots d s (operation op x y) r q = by (gives_truth op)
  where
    by : (b : Bool) → slots (if b then pick (s + 1) (operation op x y) q r else keep s (operation op x y) d (negated_local d r q)) ≤ max (d + 1) (max (slots r) (slots q))
    by true = omega arith
    by false = omega arith
negated_slots d s (invocation site os) r q = omega arith

used_slots : (d s : ℕ) (x : Source) (u : Purpose) → slots (used d s x u) ≤ max (d + 1) (purpose_slots u)
used_slots d s x answer = omega arith
used_slots d s x (local i r) = omega arith
used_slots d s x (truth r q) = tested_slots d s x r q
used_slots d s x (untruth r q) = negated_slots d s x r q

bound_slots : (d : ℕ) (c : Code) (u : Purpose) (r : Routine) → purpose_slots (bound d c u r) ≤ max (max (d + 1) (slots r)) (purpose_slots u)
bound_slots d c u r = bound_by (λ e w z. purpose_slots z ≤ max (max (d + 1) (slots r)) (purpose_slots w)) d c u r (omega arith) (λ x q y. omega arith)

pub few_slots : (c : Code) (d s : ℕ) (u : Purpose) → slots (routine c d s u) ≤ max (d + 1 + deep c) (purpose_slots u)
few_slots (leaf m o) d s u = omega (arith, used_slots d (s + m) (operand o) u)
few_slots (apply m op x y) d s u = omega (arith, used_slots d (s + m) (operation op x y) u)
few_slots (bind m f c) d s u =
    omega (arith, few_slots f d (s + m) (bound d c u (routine c (d + 1) 0 u)), bound_slots d c u (routine c (d + 1) 0 u), few_slots c (d + 1) 0 u)
few_slots (branch m c x y) d s u =
    omega (arith, few_slots c d (s + m) (truth (routine x d 0 u) (routine y d 0 u)), few_slots x d 0 u, few_slots y d 0 u)
few_slots (point_code m j x y) d s u = omega (arith, few_slots x d 0 u, few_slots y d 0 u)
few_slots (invoke m site os) d s u = omega (arith, used_slots d (s + m) (invocation site os) u)
