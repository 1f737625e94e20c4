-- The routine of code takes the steps of the code, and then those of the use of its value.
use Rattle.std.proofs.Common.{◌≡◌, Bool, true, false, ℕ, ◌+◌, ◌≤◌, refl, ap, sym, ◌∙◌, List, [], ◌∷◌, ◌++◌, length, length-append, arith, if◌then◌else◌}
use Rattle.std.specs.Prelude.{max}
use Rattle.mh_type.specs.Operations.{operate}
use Rattle.mh_type.specs.declared.operation.Op.TheVariants.{Not}
use Rattle.mh_type.specs.declared.value.Value.{Value}
use Rattle.mh_type.specs.declared.value.Value.TheVariants as value
use Rattle.mh_type.specs.declared.outcome.Outcome.{Outcome}
use Rattle.mh_type.specs.declared.outcome.Outcome.TheVariants as outcome
use Rattle.mh_tree.specs.Code.{Code, leaf, apply, bind, branch, point as point_code, invoke}
use Rattle.mh_tree.specs.Environment.{Environment}
use Rattle.mh_tree.specs.Meaning.{◌>>=◌, choose, choose_steps, after, is_valid}
use Rattle.mh_tree.specs.Running.{value_of, run_code, code_steps, weight as code_weight}
use Rattle.mh_tree.specs.inner.Scoped.{IsScoped}
use Rattle.mh_tree.specs.declared.operand.Operand.TheVariants.{Local}
use Rattle.mh_code.specs.Routine.{Source, operand, operation, invocation, Routine, keep, pick, Purpose, answer, local, truth, untruth}
use Rattle.mh_code.specs.RoutineOf.{gives_truth, tested, negated_local, negated, used, bound, routine}
use Rattle.mh_code.specs.inner.Runs.{source_outcome, source_steps, put, routine_steps, purpose_steps, source_weight, weight, purpose_weight}
use Rattle.mh_code.specs.inner.Scope.{IsPurposeIn}
use Rattle.mh_code.specs.Laws.Above.{purpose_steps_above, routine_steps_above}
use Rattle.mh_code.specs.Laws.Means.{newest, put_last}
use Rattle.mh_code.specs.Laws.Scoped.{bound_in, routine_in, purpose_more}
use Rattle.mh_code.specs.Laws.Truths.{bound_by, last_local, true_or_false}

no_more : (o : Outcome) (n : ℕ) → n ≡ n + after o (λ x. 0)
no_more (outcome.Value x) n = omega arith
no_more (outcome.Thrown t) n = omega arith

-- the steps of one part after another
in_turn : (o : Outcome) (n : ℕ) (g : Value → ℕ) (h : Value → Outcome) (w : Value → ℕ) → n + after o (λ x. g x + after (h x) w) ≡ (n + after o g) + after (o >>= h) w
in_turn (outcome.Value x) n g h w = omega arith
in_turn (outcome.Thrown t) n g h w = omega arith

chosen : (b : Value) (i j : ℕ) (x y : Outcome) (w : Value → ℕ) → choose_steps b (i + after x w) (j + after y w) ≡ choose_steps b i j + after (choose b x y) w
chosen (value.Boolean true) i j x y w = omega arith
chosen (value.Boolean false) i j x y w = omega arith
chosen (value.Int z) i j x y w = omega arith
chosen (value.Long z) i j x y w = omega arith
chosen (value.Text z) i j x y w = omega arith

one_of : (b : Bool) (s m i j : ℕ) (x y : Outcome) (w : Value → ℕ) → (s + m) + (if b then i + after x w else (j + after y w)) ≡ s + ((m + (if b then i else j)) + after (if b then x else y) w)
one_of true s m i j x y w = omega arith
one_of false s m i j x y w = omega arith

regrouped : (s m i j k : ℕ) → (s + m) + ((i + j) + k) ≡ s + ((m + (i + j)) + k)
regrouped s m i j k = omega arith

-- a truth chooses the other way if its `not` does, which takes a step
denied : (s i j : ℕ) (b : Bool) → (s + 1) + (0 + choose_steps (value.Boolean b) j i) ≡ s + (0 + (1 + after (operate Not (value.Boolean b ∷ [])) (λ c. choose_steps c i j)))
denied s i j true = omega arith
denied s i j false = omega arith

module _ (C : ℕ → ℕ → Type 0) (k n : ℕ) (v : Environment) (a : List Value) where
  picks : (d : ℕ) (r q : Routine) (l : List Value) → IsPurposeIn C k n d (truth r q) → d ≡ length l → (x : Value) → routine_steps v (pick 0 (operand (Local d)) r q) a (put l d x) ≡ choose_steps x (routine_steps v r a l) (routine_steps v q a l)
  picks d r q l h deep x =
      let above : d ≤ length l = omega (arith, deep) in
      (let lone : (i : ℕ) → 0 + (0 + i) ≡ i = λ i. omega arith in lone _)
      ∙ (λ i. choose_steps (newest a l d x deep i) (routine_steps v r a (put_last l d x deep i)) (routine_steps v q a (put_last l d x deep i)))
      ∙ (λ i. choose_steps x (routine_steps_above C k n d v a l (x ∷ []) above r h.0 i) (routine_steps_above C k n d v a l (x ∷ []) above q h.1 i))

  tested_costs : (d s : ℕ) (x : Source) (r q : Routine) (l : List Value) → IsPurposeIn C k n d (truth r q) → d ≡ length l → routine_steps v (tested d s x r q) a l ≡ s + (source_steps v x a l + after (source_outcome v x a l) (purpose_steps v (truth r q) a l))
  tested_costs d s (operand o) r q l h deep = refl
  tested_costs d s (operation op x y) r q l h deep = refl
  tested_costs d s (invocation site os) r q l h deep =
      λ i. s + (source_steps v (invocation site os) a l + after (source_outcome v (invocation site os) a l) (λ x. picks d r q l h deep x i))

  negates : (d : ℕ) (r q : Routine) (l : List Value) → IsPurposeIn C k n d (untruth r q) → d ≡ length l → (x : Value) → routine_steps v (negated_local d r q) a (put l d x) ≡ purpose_steps v (untruth r q) a l x
  negates d r q l h deep x =
      (let lone : (i : ℕ) → 1 + (0 + i) ≡ 1 + i = λ i. omega arith in lone _)
      ∙ (λ i. 1 + after (operate Not (newest a l d x deep i ∷ [])) (λ b. choose_steps b (routine_steps v r a (put_last l d x deep i)) (routine_steps v q a (put_last l d x deep i))))
      ∙ (λ i. purpose_steps_above C k n d v a l (x ∷ []) (omega (arith, deep)) (untruth r q) x h i)

  -- a source whose value is stored and then negated
  kept_costs : (d s : ℕ) (x : Source) (r q : Routine) (l : List Value) → IsPurposeIn C k n d (untruth r q) → d ≡ length l → routine_steps v (keep s x d (negated_local d r q)) a l ≡ s + (source_steps v x a l + after (source_outcome v x a l) (purpose_steps v (untruth r q) a l))
  kept_costs d s x r q l h deep = λ i. s + (source_steps v x a l + after (source_outcome v x a l) (λ z. negates d r q l h deep z i))

  negated_costs : (d s : ℕ) (x : Source) (r q : Routine) (l : List Value) → IsPurposeIn C k n d (untruth r q) → d ≡ length l → routine_steps v (negated d s x r q) a l ≡ s + (source_steps v x a l + after (source_outcome v x a l) (purpose_steps v (untruth r q) a l))
  negated_costs d s (operand o) r q l h deep = kept_costs d s (operand o) r q l h deep
  negated_costs d s (operation op x y) r q l h deep = by (gives_truth op) refl
    where
      by : (b : Bool) → gives_truth op ≡ b → routine_steps v (if b then pick (s + 1) (operation op x y) q r else keep s (operation op x y) d (negated_local d r q)) a l ≡ s + (0 + after (source_outcome v (operation op x y) a l) (purpose_steps v (untruth r q) a l))
      by true is =
          let it = true_or_false op (value_of a l x) (value_of a l y) is in
          (λ i. (s + 1) + (0 + after (it.1 i) (λ b. choose_steps b (routine_steps v q a l) (routine_steps v r a l))))
          ∙ denied s (routine_steps v r a l) (routine_steps v q a l) it.0
          ∙ sym (λ i. s + (0 + after (it.1 i) (purpose_steps v (untruth r q) a l)))
      by false is = kept_costs d s (operation op x y) r q l h deep
  negated_costs d s (invocation site os) r q l h deep = kept_costs d s (invocation site os) r q l h deep

  used_costs : (d s : ℕ) (x : Source) (u : Purpose) (l : List Value) → IsPurposeIn C k n d u → d ≡ length l → routine_steps v (used d s x u) a l ≡ s + (source_steps v x a l + after (source_outcome v x a l) (purpose_steps v u a l))
  used_costs d s x answer l h deep = ap (λ i. s + i) (no_more (source_outcome v x a l) (source_steps v x a l))
  used_costs d s x (local i r) l h deep = refl
  used_costs d s x (truth r q) l h deep = tested_costs d s x r q l h deep
  used_costs d s x (untruth r q) l h deep = negated_costs d s x r q l h deep

  -- the part that follows the first of two parts takes as many steps as if it did so as a local
  bound_costs : (c : Code) (d : ℕ) (u : Purpose) (r : Routine) (l : List Value) (x : Value) → d ≡ length l → routine_steps v r a (put l d x) ≡ code_steps v c a (l ++ x ∷ []) + after (run_code v c a (l ++ x ∷ [])) (purpose_steps v u a l) → purpose_steps v (bound d c u r) a l x ≡ code_steps v c a (l ++ x ∷ []) + after (run_code v c a (l ++ x ∷ [])) (purpose_steps v u a l)
  bound_costs c d u r l x deep h =
      bound_by (λ e w z. purpose_steps v z a l x ≡ code_steps v e a (l ++ x ∷ []) + after (run_code v e a (l ++ x ∷ [])) (purpose_steps v w a l)) d c u r h
      (λ y q o. sym (λ i. 1 + after (operate Not (last_local l d x deep i ∷ [])) (λ b. choose_steps b (routine_steps v y a l) (routine_steps v q a l))))

  pub costs : (c : Code) (d s : ℕ) (u : Purpose) (l : List Value) → IsScoped C k n d c → IsPurposeIn C k n d u → d ≡ length l → routine_steps v (routine c d s u) a l ≡ s + (code_steps v c a l + after (run_code v c a l) (purpose_steps v u a l))
  costs (leaf m o) d s u l h g deep = used_costs d (s + m) (operand o) u l g deep ∙ omega arith
  costs (apply m op x y) d s u l h g deep = used_costs d (s + m) (operation op x y) u l g deep ∙ omega arith
  costs (bind m f c) d s u l h g deep =
      let after_first : (x : Value) → routine_steps v (routine c (d + 1) 0 u) a (put l d x) ≡ code_steps v c a (l ++ x ∷ []) + after (run_code v c a (l ++ x ∷ [])) (purpose_steps v u a l) = λ x.
      ap (routine_steps v (routine c (d + 1) 0 u) a) (put_last l d x deep)
      ∙ costs c (d + 1) 0 u (l ++ x ∷ []) h.1 (purpose_more C k n d u g) (simp length-append (omega (arith, deep)))
      ∙ (λ i. 0 + (code_steps v c a (l ++ x ∷ []) + after (run_code v c a (l ++ x ∷ [])) (λ y. purpose_steps_above C k n d v a l (x ∷ []) (omega (arith, deep)) u y g i)))
      ∙ omega arith in
      costs f d (s + m) (bound d c u (routine c (d + 1) 0 u)) l h.0 (bound_in C k n d c u _ (routine_in C k n c (d + 1) 0 u h.1 (purpose_more C k n d u g)) g) deep
      ∙ (λ i. (s + m) + (code_steps v f a l + after (run_code v f a l) (λ x. bound_costs c d u (routine c (d + 1) 0 u) l x deep (after_first x) i)))
      ∙ ap (λ i. (s + m) + i) (in_turn (run_code v f a l) (code_steps v f a l) (λ x. code_steps v c a (l ++ x ∷ [])) (λ x. run_code v c a (l ++ x ∷ [])) (purpose_steps v u a l))
      ∙ regrouped s m _ _ _
  costs (branch m c x y) d s u l h g deep =
      let one : routine_steps v (routine x d 0 u) a l ≡ code_steps v x a l + after (run_code v x a l) (purpose_steps v u a l) = costs x d 0 u l h.1 g deep ∙ omega arith in
      let other : routine_steps v (routine y d 0 u) a l ≡ code_steps v y a l + after (run_code v y a l) (purpose_steps v u a l) = costs y d 0 u l h.2 g deep ∙ omega arith in
      costs c d (s + m) (truth (routine x d 0 u) (routine y d 0 u)) l h.0 (routine_in C k n x d 0 u h.1 g, routine_in C k n y d 0 u h.2 g) deep
      ∙ (λ i. (s + m) + (code_steps v c a l + after (run_code v c a l) (λ b. choose_steps b (one i) (other i))))
      ∙ (λ i. (s + m) + (code_steps v c a l + after (run_code v c a l) (λ b. chosen b (code_steps v x a l) (code_steps v y a l) (run_code v x a l) (run_code v y a l) (purpose_steps v u a l) i)))
      ∙ ap (λ i. (s + m) + i) (in_turn (run_code v c a l) (code_steps v c a l) (λ b. choose_steps b (code_steps v x a l) (code_steps v y a l)) (λ b. choose b (run_code v x a l) (run_code v y a l)) (purpose_steps v u a l))
      ∙ regrouped s m _ _ _
  costs (point_code m p x y) d s u l h g deep =
      let one : routine_steps v (routine x d 0 u) a l ≡ code_steps v x a l + after (run_code v x a l) (purpose_steps v u a l) = costs x d 0 u l h.1 g deep ∙ omega arith in
      let other : routine_steps v (routine y d 0 u) a l ≡ code_steps v y a l + after (run_code v y a l) (purpose_steps v u a l) = costs y d 0 u l h.2 g deep ∙ omega arith in
      (λ i. (s + m) + (if is_valid v p then one i else other i))
      ∙ one_of (is_valid v p) s m (code_steps v x a l) (code_steps v y a l) (run_code v x a l) (run_code v y a l) (purpose_steps v u a l)
  costs (invoke m site os) d s u l h g deep = used_costs d (s + m) (invocation site os) u l g deep ∙ omega arith

-- the weight is at most that of the code and the use of its value
tested_weighs : (n d s : ℕ) (x : Source) (r q : Routine) → weight n (tested d s x r q) ≤ s + (source_weight n x + purpose_weight n (truth r q))
tested_weighs n d s (operand o) r q = omega arith
tested_weighs n d s (operation op x y) r q = omega arith
tested_weighs n d s (invocation site os) r q = omega arith

negated_weighs : (n d s : ℕ) (x : Source) (r q : Routine) → weight n (negated d s x r q) ≤ s + (source_weight n x + purpose_weight n (untruth r q))
negated_weighs n d s (operand o) r q = omega arith
negated_weighs n d s (operation op x y) r q = by (gives_truth op)
  where
    by : (b : Bool) → weight n (if b then pick (s + 1) (operation op x y) q r else keep s (operation op x y) d (negated_local d r q)) ≤ s + (0 + (1 + max (weight n r) (weight n q)))
    by true = omega arith
    by false = omega arith
negated_weighs n d s (invocation site os) r q = omega arith

used_weighs : (n d s : ℕ) (x : Source) (u : Purpose) → weight n (used d s x u) ≤ s + (source_weight n x + purpose_weight n u)
used_weighs n d s x answer = omega arith
used_weighs n d s x (local i r) = omega arith
used_weighs n d s x (truth r q) = tested_weighs n d s x r q
used_weighs n d s x (untruth r q) = negated_weighs n d s x r q

bound_weighs : (n d : ℕ) (c : Code) (u : Purpose) (r : Routine) → weight n r ≤ code_weight n c + purpose_weight n u → purpose_weight n (bound d c u r) ≤ code_weight n c + purpose_weight n u
bound_weighs n d c u r h = bound_by (λ e w z. purpose_weight n z ≤ code_weight n e + purpose_weight n w) d c u r h (λ x q y. omega arith)

pub weighs : (n : ℕ) (c : Code) (d s : ℕ) (u : Purpose) → weight n (routine c d s u) ≤ s + (code_weight n c + purpose_weight n u)
weighs n (leaf m o) d s u = omega (arith, used_weighs n d (s + m) (operand o) u)
weighs n (apply m op x y) d s u = omega (arith, used_weighs n d (s + m) (operation op x y) u)
weighs n (bind m f c) d s u =
    omega (arith, weighs n f d (s + m) (bound d c u (routine c (d + 1) 0 u)), bound_weighs n d c u (routine c (d + 1) 0 u) (omega (arith, weighs n c (d + 1) 0 u)))
weighs n (branch m c x y) d s u =
    omega (arith, weighs n c d (s + m) (truth (routine x d 0 u) (routine y d 0 u)), weighs n x d 0 u, weighs n y d 0 u)
weighs n (point_code m p x y) d s u = omega (arith, weighs n x d 0 u, weighs n y d 0 u)
weighs n (invoke m site os) d s u = omega (arith, used_weighs n d (s + m) (invocation site os) u)
