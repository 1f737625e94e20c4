-- The routine of code that names only existing operands, points and sites names only existing ones.
use Rattle.std.proofs.Common.{Bool, true, false, ℕ, ◌+◌, ◌≤◌, List, [], ◌∷◌, arith, if◌then◌else◌}
use Rattle.mh_tree.specs.Code.{Code, leaf, apply, bind, branch, point as point_code, invoke}
use Rattle.mh_tree.specs.inner.Scoped.{IsIn, AllIn, IsScoped}
use Rattle.mh_tree.specs.declared.operand.Operand.{Operand}
use Rattle.mh_tree.specs.declared.operand.Operand.TheVariants.{Argument, Local, Constant}
use Rattle.mh_code.specs.Routine.{Source, operand, operation, invocation, Routine, give, keep, pick, point, Purpose, answer, local, truth, untruth}
use Rattle.mh_code.specs.RoutineOf.{gives_truth, tested, negated_local, negated, used, bound, routine}
use Rattle.mh_code.specs.inner.Scope.{IsSourceIn, IsRoutineIn, IsPurposeIn}
use Rattle.mh_code.specs.Laws.Truths.{bound_by}

module _ (C : ℕ → ℕ → Type 0) (k n : ℕ) where
  one_more : (d : ℕ) (o : Operand) → IsIn n d o → IsIn n (d + 1) o
  one_more d (Argument i) h = h
  one_more d (Local i) h = omega (arith, h)
  one_more d (Constant x) h = tt

  all_more : (d : ℕ) (os : List Operand) → AllIn n d os → AllIn n (d + 1) os
  all_more d [] h = tt
  all_more d (o ∷ os) (p, ps) = (one_more d o p, all_more d os ps)

  source_more : (d : ℕ) (x : Source) → IsSourceIn C n d x → IsSourceIn C n (d + 1) x
  source_more d (operand o) h = one_more d o h
  source_more d (operation op x y) h = (one_more d x h.0, one_more d y h.1)
  source_more d (invocation s os) h = (h.0, all_more d os h.1)

  -- it may be run below one more local
  routine_more : (d : ℕ) (r : Routine) → IsRoutineIn C k n d r → IsRoutineIn C k n (d + 1) r
  routine_more d (give s x) h = source_more d x h
  routine_more d (keep s x i r) h = (source_more d x h.0, omega (arith, h.1), h.2)
  routine_more d (pick s x r q) h = (source_more d x h.0, routine_more d r h.1, routine_more d q h.2)
  routine_more d (point s p r q) h = (h.0, routine_more d r h.1, routine_more d q h.2)

  pub purpose_more : (d : ℕ) (u : Purpose) → IsPurposeIn C k n d u → IsPurposeIn C k n (d + 1) u
  purpose_more d answer h = tt
  purpose_more d (local i r) h = (omega (arith, h.0), h.1)
  purpose_more d (truth r q) h = (routine_more d r h.0, routine_more d q h.1)
  purpose_more d (untruth r q) h = (routine_more d r h.0, routine_more d q h.1)

  tested_in : (d s : ℕ) (x : Source) (r q : Routine) → IsSourceIn C n d x → IsPurposeIn C k n d (truth r q) → IsRoutineIn C k n d (tested d s x r q)
  tested_in d s (operand o) r q h g = (h, g.0, g.1)
  tested_in d s (operation op x y) r q h g = (h, g.0, g.1)
  tested_in d s (invocation site os) r q h g = (h, omega arith, (omega arith, routine_more d r g.0, routine_more d q g.1))

  -- a stored value is negated below one more local
  below_in : (d : ℕ) (r q : Routine) → IsPurposeIn C k n d (untruth r q) → (d ≤ d) × IsRoutineIn C k n (d + 1) (negated_local d r q)
  below_in d r q g = (omega arith, ((omega arith, omega arith), routine_more d r g.0, routine_more d q g.1))

  negated_in : (d s : ℕ) (x : Source) (r q : Routine) → IsSourceIn C n d x → IsPurposeIn C k n d (untruth r q) → IsRoutineIn C k n d (negated d s x r q)
  negated_in d s (operand o) r q h g =
      let below = below_in d r q g in
      (h, below.0, below.1)
  negated_in d s (operation op x y) r q h g = by (gives_truth op)
    where
      by : (b : Bool) → IsRoutineIn C k n d (if b then pick (s + 1) (operation op x y) q r else keep s (operation op x y) d (negated_local d r q))
      by true = (h, g.1, g.0)
      by false =
          let below = below_in d r q g in
          (h, below.0, below.1)
  negated_in d s (invocation site os) r q h g =
      let below = below_in d r q g in
      (h, below.0, below.1)

  used_in : (d s : ℕ) (x : Source) (u : Purpose) → IsSourceIn C n d x → IsPurposeIn C k n d u → IsRoutineIn C k n d (used d s x u)
  used_in d s x answer h g = h
  used_in d s x (local i r) h g = (h, g.0, g.1)
  used_in d s x (truth r q) h g = tested_in d s x r q h g
  used_in d s x (untruth r q) h g = negated_in d s x r q h g

  -- the use of the first of two parts names only existing operands, points and sites
  pub bound_in : (d : ℕ) (c : Code) (u : Purpose) (r : Routine) → IsRoutineIn C k n (d + 1) r → IsPurposeIn C k n d u → IsPurposeIn C k n d (bound d c u r)
  bound_in d c u r h g = bound_by (λ e w z. IsPurposeIn C k n d w → IsPurposeIn C k n d z) d c u r (λ g'. (omega arith, h)) (λ x q y g'. g') g

  pub routine_in : (c : Code) (d s : ℕ) (u : Purpose) → IsScoped C k n d c → IsPurposeIn C k n d u → IsRoutineIn C k n d (routine c d s u)
  routine_in (leaf m o) d s u h g = used_in d (s + m) (operand o) u h g
  routine_in (apply m op x y) d s u h g = used_in d (s + m) (operation op x y) u h g
  routine_in (bind m f c) d s u h g =
      routine_in f d (s + m) (bound d c u (routine c (d + 1) 0 u)) h.0 (bound_in d c u _ (routine_in c (d + 1) 0 u h.1 (purpose_more d u g)) g)
  routine_in (branch m c x y) d s u h g =
      routine_in c d (s + m) (truth (routine x d 0 u) (routine y d 0 u)) h.0 (routine_in x d 0 u h.1 g, routine_in y d 0 u h.2 g)
  routine_in (point_code m p x y) d s u h g = (h.0, routine_in x d 0 u h.1 g, routine_in y d 0 u h.2 g)
  routine_in (invoke m site os) d s u h g = used_in d (s + m) (invocation site os) u h g
