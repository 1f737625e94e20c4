-- The result of decided tests, by the first of them; the others come later.
use Rattle.std.proofs.Common.{◌≡◌, Bool, true, false, cond, ap, Option, Some, None, Ok, Err}
use Rattle.mh_base.specs.Listed.{made_unless}

module _ {X E : Type 0} (x : X) (fault : E) (later : Option E) where
  -- if the first test holds, the later ones decide
  pub passes : (b : Bool) → b ≡ true → made_unless x (cond b later (Some fault)) ≡ made_unless x later
  passes b h = ap (λ t. made_unless x (cond t later (Some fault))) h

  -- if the first test does not hold, its fault is reported
  pub fails : (b : Bool) → b ≡ false → made_unless x (cond b later (Some fault)) ≡ Err fault
  fails b h = ap (λ t. made_unless x (cond t later (Some fault))) h

-- the result is the value that was to be made
pub made_is : {X E : Type 0} (x y : X) (told : Option E) → made_unless x told ≡ Ok y → x ≡ y
made_is x y None is = cc
made_is x y (Some fault) is = cc
