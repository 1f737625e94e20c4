-- The test of values decides equality.
use Rattle.std.proofs.Common.{◌≡◌, refl, sym, ap, ◌∙◌, true, false, Bool}
use Rattle.std.specs.Bool.{Decides}
use Rattle.std.proofs.lemmas.Bool.Decides.{Decides-int_eq}
use Rattle.std.proofs.lemmas.Slice.Eq.{bytes_eq-Decides}
use Rattle.mh_type.specs.declared.value.Value.{Value}
use Rattle.mh_type.specs.declared.value.Value.TheVariants.{Int, Long, Boolean, Text}
use Rattle.mh_type.specs.Values.{same_truth, same_value}

same_truths : (b c : Bool) → same_truth b c ≡ true → b ≡ c
same_truths true true h = refl
same_truths true false h = cc
same_truths false true h = cc
same_truths false false h = refl

same_equal : (x y : Value) → same_value x y ≡ true → x ≡ y
same_equal (Int m) (Int n) h = ap Int ((Decides-int_eq m n).0 h)
same_equal (Long m) (Long n) h = ap Long ((Decides-int_eq m n).0 h)
same_equal (Boolean b) (Boolean c) h = ap Boolean (same_truths b c h)
same_equal (Text s) (Text t) h = ap Text ((bytes_eq-Decides s t).0 h)
same_equal _ _ h = cc

same_self : (x : Value) → same_value x x ≡ true
same_self (Int m) = (Decides-int_eq m m).1 refl
same_self (Long m) = (Decides-int_eq m m).1 refl
same_self (Boolean true) = refl
same_self (Boolean false) = refl
same_self (Text s) = (bytes_eq-Decides s s).1 refl

pub values_decide : (x y : Value) → Decides (same_value x y) (x ≡ y)
values_decide x y = (same_equal x y, λ e. ap (same_value x) (sym e) ∙ same_self x)
