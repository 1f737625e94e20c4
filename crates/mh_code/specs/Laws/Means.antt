-- The routine of code does what the code does, and then uses its value.
use Rattle.std.proofs.Common.{◌≡◌, Bool, true, false, ℕ, ◌+◌, refl, ap, sym, ◌∙◌, List, [], ◌∷◌, ◌++◌, take, length, length-append, arith, if◌then◌else◌}
use Rattle.std.proofs.Math.Seq.{take-length, get_or-append_seam}
use Rattle.mh_type.specs.Operations.{operate}
use Rattle.mh_type.specs.declared.operation.Op.TheVariants.{Not}
use Rattle.mh_type.specs.declared.value.Value.{Value}
use Rattle.mh_type.specs.declared.value.Value.TheVariants as value
use Rattle.mh_type.specs.declared.outcome.Outcome.{Outcome}
use Rattle.mh_type.specs.declared.outcome.Outcome.TheVariants as outcome
use Rattle.mh_tree.specs.Code.{Code, leaf, apply, bind, branch, point as point_code, invoke}
use Rattle.mh_tree.specs.Environment.{Environment}
use Rattle.mh_tree.specs.Meaning.{◌>>=◌, choose, is_valid, argument}
use Rattle.mh_tree.specs.Running.{value_of, run_code}
use Rattle.mh_tree.specs.inner.Scoped.{IsScoped}
use Rattle.mh_tree.specs.declared.operand.Operand.TheVariants.{Local}
use Rattle.mh_code.specs.Routine.{Source, operand, operation, invocation, Routine, keep, pick, Purpose, answer, local, truth, untruth}
use Rattle.mh_code.specs.RoutineOf.{gives_truth, tested, negated_local, negated, used, bound, routine}
use Rattle.mh_code.specs.inner.Runs.{source_outcome, put, run_routine, purpose_outcome}
use Rattle.mh_code.specs.inner.Scope.{IsPurposeIn}
use Rattle.mh_code.specs.Laws.Above.{purpose_above, routine_above}
use Rattle.mh_code.specs.Laws.Scoped.{bound_in, routine_in, purpose_more}
use Rattle.mh_code.specs.Laws.Truths.{bound_by, last_local, true_or_false}

-- a value that is the outcome
only_value : (o : Outcome) → o ≡ (o >>= (λ x. outcome.Value x))
only_value (outcome.Value x) = refl
only_value (outcome.Thrown t) = refl

-- one part after another
in_turn : (o : Outcome) (f g : Value → Outcome) → ((o >>= f) >>= g) ≡ (o >>= (λ x. f x >>= g))
in_turn (outcome.Value x) f g = refl
in_turn (outcome.Thrown t) f g = refl

chosen : (b : Value) (x y : Outcome) (g : Value → Outcome) → choose b (x >>= g) (y >>= g) ≡ (choose b x y >>= g)
chosen (value.Boolean true) x y g = refl
chosen (value.Boolean false) x y g = refl
chosen (value.Int i) x y g = refl
chosen (value.Long i) x y g = refl
chosen (value.Text s) x y g = refl

one_of : (b : Bool) (x y : Outcome) (g : Value → Outcome) → (if b then (x >>= g) else (y >>= g)) ≡ ((if b then x else y) >>= g)
one_of true x y g = refl
one_of false x y g = refl

-- the local that was put last
pub newest : (a l : List Value) (d : ℕ) (x : Value) → d ≡ length l → value_of a (put l d x) (Local d) ≡ x
newest a l d x deep =
    ap (λ n. argument (take n l ++ x ∷ []) n) deep
    ∙ ap (λ t. argument (t ++ x ∷ []) (length l)) (take-length l)
    ∙ get_or-append_seam l x [] (value.Boolean false)

pub put_last : (l : List Value) (d : ℕ) (x : Value) → d ≡ length l → put l d x ≡ l ++ x ∷ []
put_last l d x deep = ap (λ n. take n l ++ x ∷ []) deep ∙ ap (λ t. t ++ x ∷ []) (take-length l)

-- a truth chooses the other way if its `not` does
denied : (b : Bool) (x y : Outcome) → choose (value.Boolean b) y x ≡ (operate Not (value.Boolean b ∷ []) >>= (λ c. choose c x y))
denied true x y = refl
denied false x y = refl

module _ (C : ℕ → ℕ → Type 0) (k n : ℕ) (v : Environment) (a : List Value) where
  picks : (d : ℕ) (r q : Routine) (l : List Value) → IsPurposeIn C k n d (truth r q) → d ≡ length l → (x : Value) → run_routine v (pick 0 (operand (Local d)) r q) a (put l d x) ≡ choose x (run_routine v r a l) (run_routine v q a l)
  picks d r q l h deep x =
      (λ i. choose (newest a l d x deep i) (run_routine v r a (put_last l d x deep i)) (run_routine v q a (put_last l d x deep i)))
      ∙ (λ i. choose x (routine_above C k n d v a l (x ∷ []) (omega (arith, deep)) r h.0 i) (routine_above C k n d v a l (x ∷ []) (omega (arith, deep)) q h.1 i))

  tested_means : (d s : ℕ) (x : Source) (r q : Routine) (l : List Value) → IsPurposeIn C k n d (truth r q) → d ≡ length l → run_routine v (tested d s x r q) a l ≡ (source_outcome v x a l >>= purpose_outcome v (truth r q) a l)
  tested_means d s (operand o) r q l h deep = refl
  tested_means d s (operation op x y) r q l h deep = refl
  tested_means d s (invocation site os) r q l h deep = λ i. source_outcome v (invocation site os) a l >>= (λ x. picks d r q l h deep x i)

  negates : (d : ℕ) (r q : Routine) (l : List Value) → IsPurposeIn C k n d (untruth r q) → d ≡ length l → (x : Value) → run_routine v (negated_local d r q) a (put l d x) ≡ purpose_outcome v (untruth r q) a l x
  negates d r q l h deep x =
      (λ i. operate Not (newest a l d x deep i ∷ []) >>= (λ b. choose b (run_routine v r a (put_last l d x deep i)) (run_routine v q a (put_last l d x deep i))))
      ∙ (λ i. purpose_above C k n d v a l (x ∷ []) (omega (arith, deep)) (untruth r q) x h i)

  negated_means : (d s : ℕ) (x : Source) (r q : Routine) (l : List Value) → IsPurposeIn C k n d (untruth r q) → d ≡ length l → run_routine v (negated d s x r q) a l ≡ (source_outcome v x a l >>= purpose_outcome v (untruth r q) a l)
  negated_means d s (operand o) r q l h deep = negates d r q l h deep (value_of a l o)
  negated_means d s (operation op x y) r q l h deep = by (gives_truth op) refl
    where
      by : (b : Bool) → gives_truth op ≡ b → run_routine v (if b then pick (s + 1) (operation op x y) q r else keep s (operation op x y) d (negated_local d r q)) a l ≡ (source_outcome v (operation op x y) a l >>= purpose_outcome v (untruth r q) a l)
      by true is =
          let it = true_or_false op (value_of a l x) (value_of a l y) is in
          (λ i. it.1 i >>= (λ b. choose b (run_routine v q a l) (run_routine v r a l)))
          ∙ denied it.0 (run_routine v r a l) (run_routine v q a l)
          ∙ sym (λ i. it.1 i >>= purpose_outcome v (untruth r q) a l)
      by false is = λ i. source_outcome v (operation op x y) a l >>= (λ z. negates d r q l h deep z i)
  negated_means d s (invocation site os) r q l h deep = λ i. source_outcome v (invocation site os) a l >>= (λ x. negates d r q l h deep x i)

  used_means : (d s : ℕ) (x : Source) (u : Purpose) (l : List Value) → IsPurposeIn C k n d u → d ≡ length l → run_routine v (used d s x u) a l ≡ (source_outcome v x a l >>= purpose_outcome v u a l)
  used_means d s x answer l h deep = only_value (source_outcome v x a l)
  used_means d s x (local i r) l h deep = refl
  used_means d s x (truth r q) l h deep = tested_means d s x r q l h deep
  used_means d s x (untruth r q) l h deep = negated_means d s x r q l h deep

  -- the part that follows the first of two parts, if it does so as a local
  bound_means : (c : Code) (d : ℕ) (u : Purpose) (r : Routine) (l : List Value) (x : Value) → d ≡ length l → run_routine v r a (put l d x) ≡ (run_code v c a (l ++ x ∷ []) >>= purpose_outcome v u a l) → purpose_outcome v (bound d c u r) a l x ≡ (run_code v c a (l ++ x ∷ []) >>= purpose_outcome v u a l)
  bound_means c d u r l x deep h =
      bound_by (λ e w z. purpose_outcome v z a l x ≡ (run_code v e a (l ++ x ∷ []) >>= purpose_outcome v w a l)) d c u r h
      (λ y q o. sym (λ i. operate Not (last_local l d x deep i ∷ []) >>= (λ b. choose b (run_routine v y a l) (run_routine v q a l))))

  pub means : (c : Code) (d s : ℕ) (u : Purpose) (l : List Value) → IsScoped C k n d c → IsPurposeIn C k n d u → d ≡ length l → run_routine v (routine c d s u) a l ≡ (run_code v c a l >>= purpose_outcome v u a l)
  means (leaf m o) d s u l h g deep = used_means d (s + m) (operand o) u l g deep
  means (apply m op x y) d s u l h g deep = used_means d (s + m) (operation op x y) u l g deep
  means (bind m f c) d s u l h g deep =
      let after_first : (x : Value) → run_routine v (routine c (d + 1) 0 u) a (put l d x) ≡ (run_code v c a (l ++ x ∷ []) >>= purpose_outcome v u a l) = λ x.
      ap (run_routine v (routine c (d + 1) 0 u) a) (put_last l d x deep)
      ∙ means c (d + 1) 0 u (l ++ x ∷ []) h.1 (purpose_more C k n d u g) (simp length-append (omega (arith, deep)))
      ∙ (λ i. run_code v c a (l ++ x ∷ []) >>= (λ y. purpose_above C k n d v a l (x ∷ []) (omega (arith, deep)) u y g i)) in
      means f d (s + m) (bound d c u (routine c (d + 1) 0 u)) l h.0 (bound_in C k n d c u _ (routine_in C k n c (d + 1) 0 u h.1 (purpose_more C k n d u g)) g) deep
      ∙ (λ i. run_code v f a l >>= (λ x. bound_means c d u (routine c (d + 1) 0 u) l x deep (after_first x) i))
      ∙ sym (in_turn (run_code v f a l) (λ x. run_code v c a (l ++ x ∷ [])) (purpose_outcome v u a l))
  means (branch m c x y) d s u l h g deep =
      means c d (s + m) (truth (routine x d 0 u) (routine y d 0 u)) l h.0 (routine_in C k n x d 0 u h.1 g, routine_in C k n y d 0 u h.2 g) deep
      ∙ (λ i. run_code v c a l >>= (λ b. choose b (means x d 0 u l h.1 g deep i) (means y d 0 u l h.2 g deep i)))
      ∙ (λ i. run_code v c a l >>= (λ b. chosen b (run_code v x a l) (run_code v y a l) (purpose_outcome v u a l) i))
      ∙ sym (in_turn (run_code v c a l) (λ b. choose b (run_code v x a l) (run_code v y a l)) (purpose_outcome v u a l))
  means (point_code m p x y) d s u l h g deep =
      (λ i. if is_valid v p then means x d 0 u l h.1 g deep i else means y d 0 u l h.2 g deep i)
      ∙ one_of (is_valid v p) (run_code v x a l) (run_code v y a l) (purpose_outcome v u a l)
  means (invoke m site os) d s u l h g deep = used_means d (s + m) (invocation site os) u l g deep
