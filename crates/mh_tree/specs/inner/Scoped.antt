-- Code that names only existing operands, points and sites.
use Rattle.std.specs.Prelude.{ℕ, ◌+◌, ◌<◌, List, [], ◌∷◌, length}
use Rattle.mh_tree.specs.Code.{Code, leaf, apply, bind, branch, point, invoke}
use Rattle.mh_tree.specs.declared.operand.Operand.{Operand}
use Rattle.mh_tree.specs.declared.operand.Operand.TheVariants.{Argument, Local, Constant}

-- one of n arguments, or of d locals
abbrev pub IsIn : ℕ → ℕ → Operand → Type 0
IsIn n d (Argument i) = i < n
IsIn n d (Local i) = i < d
IsIn n d (Constant x) = Unit {0}

-- each operand is a constant, or one of n arguments or of d locals
abbrev pub AllIn : ℕ → ℕ → List Operand → Type 0
AllIn n d [] = Unit {0}
AllIn n d (o ∷ rest) = IsIn n d o × AllIn n d rest

-- Code that names some of n arguments, d locals and k points. It invokes sites as C allows, each with a number of arguments.
abbrev pub IsScoped : (ℕ → ℕ → Type 0) → ℕ → ℕ → ℕ → Code → Type 0
IsScoped C k n d (leaf s o) = IsIn n d o
IsScoped C k n d (apply s op x y) = IsIn n d x × IsIn n d y
IsScoped C k n d (bind s f g) = IsScoped C k n d f × IsScoped C k n (d + 1) g
IsScoped C k n d (branch s c x y) = IsScoped C k n d c × IsScoped C k n d x × IsScoped C k n d y
IsScoped C k n d (point s p x y) = (p < k) × IsScoped C k n d x × IsScoped C k n d y
IsScoped C k n d (invoke s site os) = C site (length os) × AllIn n d os
