-- Words and the values that they are.
use Rattle.std.proofs.Common.{◌≡◌, Bool, true, false, not, refl, ap, sym, ◌∙◌, subst}
use Rattle.std.specs.Prelude.{ℤ}
use Rattle.mh_type.specs.declared.kind.Kind.{Kind}
use Rattle.mh_type.specs.declared.kind.Kind.TheVariants as kind
use Rattle.mh_type.specs.declared.value.Value.{Value}
use Rattle.mh_type.specs.declared.value.Value.TheVariants.{Int, Long, Boolean, Text}
use Rattle.mh_type.specs.Operations.{is_zero}
use Rattle.mh_words.specs.Values.{IsWord, truth_word, value_of_word}
use Rattle.mh_words.specs.inner.Agrees.{HasWord}

pub truth_back : (b : Bool) → b ≡ not (is_zero (truth_word b))
truth_back true = refl
truth_back false = refl

-- the value of a word is the value whose word it is
pub value_is : (k : Kind) (x : Value) (w : ℤ) → HasWord k x w → x ≡ value_of_word k w
value_is k (Int n) w (e, h) = ap Int (sym h.0) ∙ ap (λ j. value_of_word j w) e
value_is k (Long n) w (e, h) = ap Long (sym h) ∙ ap (λ j. value_of_word j w) e
value_is k (Boolean b) w (e, h) = ap Boolean (truth_back b) ∙ ap (λ z. Boolean (not (is_zero z))) (sym h) ∙ ap (λ j. value_of_word j w) e
value_is k (Text t) w (e, h) = absurd h

pub proper : (k : Kind) (x : Value) (w : ℤ) → HasWord k x w → IsWord (value_of_word k w) w
proper k x w h = subst (λ y. IsWord y w) (value_is k x w h) h.1

-- a proper word is that of a value of its kind
pub has_word : (k : Kind) (w : ℤ) → IsWord (value_of_word k w) w → HasWord k (value_of_word k w) w
has_word kind.Int w h = (refl, h)
has_word kind.Long w h = (refl, h)
has_word kind.Boolean w h = (refl, h)
has_word kind.Text w h = absurd h
