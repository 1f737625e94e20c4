-- Operations on words return the words of what operations on values return.
use Rattle.std.proofs.Common.{◌≡◌, Bool, true, false, not, Option, Some, None, [], ◌∷◌, refl, ap, sym, ◌∙◌, subst, arith, if◌then◌else◌}
use Rattle.std.specs.Prelude.{ℤ, pos, neg_ℤ, ◌+ℤ◌, ◌-ℤ◌, ◌*ℤ◌, int_lt, IfSome}
use Rattle.std.specs.Int.{int_wrap, int_wrapping_div, w32, w64}
use Rattle.std.specs.Int.RustNames.{FitsSigned, int_rem}
use Rattle.std.proofs.lemmas.Int.{int_wrap_fits, SFits-int_wrap, ints}
use Rattle.std.proofs.Math.Facts.{sfits_lit}
use Rattle.mh_type.specs.declared.kind.Kind.{Kind}
use Rattle.mh_type.specs.declared.kind.Kind.TheVariants as kind
use Rattle.mh_type.specs.declared.operation.Op.{Op}
use Rattle.mh_type.specs.declared.operation.Op.TheVariants as op
use Rattle.mh_type.specs.declared.outcome.Outcome.{Outcome}
use Rattle.mh_type.specs.declared.outcome.Outcome.TheVariants as outcome
use Rattle.mh_type.specs.declared.outcome.Throw.TheVariants.{ArithmeticException}
use Rattle.mh_type.specs.declared.value.Value.TheVariants.{Int, Long, Boolean}
use Rattle.mh_type.specs.Operations.{int_eq, is_zero, truth, truth_eq, operate, divided as value_divided, int_result, long_result}
use Rattle.mh_words.specs.Operations.{divided, low, result}
use Rattle.mh_words.specs.Running.{outcome_of}
use Rattle.mh_words.specs.Values.{IsWord, truth_word, value_of_word}
use Rattle.mh_words.specs.inner.Forms.{form_of}
use Rattle.mh_words.specs.declared.form.Form.{Form}
use Rattle.mh_words.specs.declared.operation.WordOperation.TheVariants as word
use Rattle.mh_words.proofs.Quotients.{quotient_fits, remainder_fits}
use Rattle.mh_words.proofs.WordValues.{truth_back}

-- an outcome that a word of a kind is, or the throw of none
pub record Given (k : Kind) (o : Outcome) (r : Option ℤ) : Type 0 where
  pub outcome : o ≡ outcome_of k r
  pub proper : IfSome r (λ w. IsWord (value_of_word k w) w)

low_is : (w : ℤ) → FitsSigned w32 w → low w ≡ w
low_is w h = int_wrap_fits w32 w h

-- an operation on ints, by what it does with ints
on_ints : (go : ℤ → ℤ → Outcome) (by : ℤ → ℤ → Option ℤ) (w u : ℤ) → FitsSigned w32 w → FitsSigned w32 u → Given kind.Int (go w u) (by w u) → Given kind.Int (go w u) (by (low w) (low u))
on_ints go by w u p q h = subst (λ x. Given kind.Int (go w u) (by x (low u))) (sym (low_is w p)) (subst (λ y. Given kind.Int (go w u) (by w y)) (sym (low_is u q)) h)

wrapped_int : (z : ℤ) → Given kind.Int (int_result z) (Some (int_wrap w32 z))
wrapped_int z = record { outcome = refl; proper = (refl, SFits-int_wrap w32 z) }

wrapped_long : (z : ℤ) → Given kind.Long (long_result z) (Some (int_wrap w64 z))
wrapped_long z = record { outcome = refl; proper = refl }

of_truth : (b : Bool) → Given kind.Boolean (truth b) (Some (truth_word b))
of_truth b = record { outcome = ap (λ c. outcome.Value (Boolean c)) (truth_back b); proper = ap truth_word (truth_back b) }

int_divided : (by : ℤ → ℤ → ℤ) (w u : ℤ) → FitsSigned w32 (by w u) → Given kind.Int (value_divided Int by w u) (divided by w u)
int_divided by w u h = elim (is_zero u) as (λ b. Given kind.Int (if b then outcome.Thrown ArithmeticException else outcome.Value (Int (by w u))) (if b then None else Some (by w u))) [
  | true ↦ record { outcome = refl; proper = tt }
  | false ↦ record { outcome = refl; proper = (refl, h) }
]

long_divided : (by : ℤ → ℤ → ℤ) (w u : ℤ) → Given kind.Long (value_divided Long by w u) (divided by w u)
long_divided by w u = elim (is_zero u) as (λ b. Given kind.Long (if b then outcome.Thrown ArithmeticException else outcome.Value (Long (by w u))) (if b then None else Some (by w u))) [
  | true ↦ record { outcome = refl; proper = tt }
  | false ↦ record { outcome = refl; proper = refl }
]

same_truth : (b c : Bool) → truth_word (truth_eq b c) ≡ truth_word (int_eq (truth_word b) (truth_word c))
same_truth true true = refl
same_truth true false = refl
same_truth false true = refl
same_truth false false = refl

of_booleans : (w u : ℤ) → w ≡ truth_word (not (is_zero w)) → u ≡ truth_word (not (is_zero u)) → Given kind.Boolean (truth (truth_eq (not (is_zero w)) (not (is_zero u)))) (Some (truth_word (int_eq w u)))
of_booleans w u p q = subst (λ z. Given kind.Boolean (truth (truth_eq (not (is_zero w)) (not (is_zero u)))) (Some z))
    (same_truth (not (is_zero w)) (not (is_zero u)) ∙ (λ i. truth_word (int_eq (sym p i) (sym q i))))
    (of_truth (truth_eq (not (is_zero w)) (not (is_zero u))))

-- what holds of a form holds of the form that is some operation's
at_form : (P : Form → Type 0) (f m : Form) → Some f ≡ Some m → P f → P m
at_form P f m e h = let i : f ≡ m = cc in subst P i h

abbrev FormGives : Op → ℤ → ℤ → Form → Type 0
FormGives o w u m = IsWord (value_of_word m.takes w) w → IsWord (value_of_word m.takes u) u → Given m.returns (operate o (value_of_word m.takes w ∷ value_of_word m.takes u ∷ [])) (result m.operation w u)

pub form_gives : (o : Op) (m : Form) (w u : ℤ) → form_of o ≡ Some m → FormGives o w u m
form_gives op.Iadd m w u e = at_form (FormGives op.Iadd w u) _ m e (λ p q. on_ints (λ x y. int_result (x +ℤ y)) (λ x y. Some (int_wrap w32 (x +ℤ y))) w u p.1 q.1 (wrapped_int (w +ℤ u)))
form_gives op.Isub m w u e = at_form (FormGives op.Isub w u) _ m e (λ p q. on_ints (λ x y. int_result (x -ℤ y)) (λ x y. Some (int_wrap w32 (x -ℤ y))) w u p.1 q.1 (wrapped_int (w -ℤ u)))
form_gives op.Imul m w u e = at_form (FormGives op.Imul w u) _ m e (λ p q. on_ints (λ x y. int_result (x *ℤ y)) (λ x y. Some (int_wrap w32 (x *ℤ y))) w u p.1 q.1 (wrapped_int (w *ℤ u)))
form_gives op.Idiv m w u e = at_form (FormGives op.Idiv w u) _ m e (λ p q. on_ints (value_divided Int (int_wrapping_div w32)) (divided (int_wrapping_div w32)) w u p.1 q.1 (int_divided (int_wrapping_div w32) w u (quotient_fits w u p.1)))
form_gives op.Irem m w u e = at_form (FormGives op.Irem w u) _ m e (λ p q. on_ints (value_divided Int int_rem) (divided int_rem) w u p.1 q.1 (int_divided int_rem w u (remainder_fits w u p.1)))
form_gives op.Ieq m w u e = at_form (FormGives op.Ieq w u) _ m e (λ p q. of_truth (int_eq w u))
form_gives op.Ilt m w u e = at_form (FormGives op.Ilt w u) _ m e (λ p q. of_truth (int_lt w u))
form_gives op.Ladd m w u e = at_form (FormGives op.Ladd w u) _ m e (λ p q. wrapped_long (w +ℤ u))
form_gives op.Lsub m w u e = at_form (FormGives op.Lsub w u) _ m e (λ p q. wrapped_long (w -ℤ u))
form_gives op.Lmul m w u e = at_form (FormGives op.Lmul w u) _ m e (λ p q. wrapped_long (w *ℤ u))
form_gives op.Ldiv m w u e = at_form (FormGives op.Ldiv w u) _ m e (λ p q. long_divided (int_wrapping_div w64) w u)
form_gives op.Lrem m w u e = at_form (FormGives op.Lrem w u) _ m e (λ p q. long_divided int_rem w u)
form_gives op.Leq m w u e = at_form (FormGives op.Leq w u) _ m e (λ p q. of_truth (int_eq w u))
form_gives op.Llt m w u e = at_form (FormGives op.Llt w u) _ m e (λ p q. of_truth (int_lt w u))
form_gives op.Beq m w u e = at_form (FormGives op.Beq w u) _ m e (λ p q. of_booleans w u p q)
form_gives op.Ineg m w u e = cc
form_gives op.Lneg m w u e = cc
form_gives op.I2l m w u e = cc
form_gives op.L2i m w u e = cc
form_gives op.Not m w u e = cc
form_gives op.Concat m w u e = cc
form_gives op.Seq m w u e = cc
form_gives op.Len m w u e = cc

-- the operations on one value
negated : (w : ℤ) → pos 0 -ℤ w ≡ neg_ℤ w
negated w = omega (arith, ints)

pub int_negated : (w : ℤ) → FitsSigned w32 w → Given kind.Int (int_result (neg_ℤ w)) (result word.IntSubtract (pos 0) w)
int_negated w h = subst (λ z. Given kind.Int (int_result z) (result word.IntSubtract (pos 0) w)) (negated w)
    (on_ints (λ x y. int_result (x -ℤ y)) (λ x y. Some (int_wrap w32 (x -ℤ y))) (pos 0) w (sfits_lit tt) h (wrapped_int (pos 0 -ℤ w)))

pub long_negated : (w : ℤ) → Given kind.Long (long_result (neg_ℤ w)) (result word.LongSubtract (pos 0) w)
long_negated w = subst (λ z. Given kind.Long (long_result z) (result word.LongSubtract (pos 0) w)) (negated w) (wrapped_long (pos 0 -ℤ w))

pub widened : (w : ℤ) → Given kind.Long (outcome.Value (Long w)) (Some w)
widened w = record { outcome = refl; proper = refl }

pub narrowed : (w : ℤ) → Given kind.Int (int_result w) (result word.LongToInt w w)
narrowed w = wrapped_int w

twice : (b : Bool) → b ≡ not (not b)
twice true = refl
twice false = refl

pub denied : (w : ℤ) → Given kind.Boolean (truth (not (not (is_zero w)))) (result word.Equal w (pos 0))
denied w = subst (λ b. Given kind.Boolean (truth b) (result word.Equal w (pos 0))) (twice (is_zero w)) (of_truth (is_zero w))
