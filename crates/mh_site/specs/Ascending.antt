-- Numbers in ascending order.
use Rattle.std.specs.Prelude.{ℕ, List, [], ◌∷◌, nat_le, if◌then◌else◌}

-- a number inserted before the first that is not less
abbrev pub put_in : ℕ → List ℕ → List ℕ
put_in x [] = x ∷ []
put_in x (y ∷ ys) = if nat_le x y then x ∷ y ∷ ys else y ∷ put_in x ys

-- the numbers in ascending order
abbrev pub ascending : List ℕ → List ℕ
ascending [] = []
ascending (x ∷ xs) = put_in x (ascending xs)
