-- Routines that name only existing operands, points and sites.
use Rattle.std.specs.Prelude.{ℕ, ◌+◌, ◌<◌, ◌≤◌, length}
use Rattle.mh_tree.specs.inner.Scoped.{IsIn, AllIn}
use Rattle.mh_code.specs.Routine.{Source, operand, operation, invocation, Routine, give, keep, pick, point, Purpose, answer, local, truth, untruth}

-- A source that names some of n arguments and d locals. It invokes sites as C allows, a site with a number of arguments.
abbrev pub IsSourceIn : (ℕ → ℕ → Type 0) → ℕ → ℕ → Source → Type 0
IsSourceIn C n d (operand o) = IsIn n d o
IsSourceIn C n d (operation op x y) = IsIn n d x × IsIn n d y
IsSourceIn C n d (invocation s os) = C s (length os) × AllIn n d os

-- A routine that names some of n arguments, d locals and k points, and invokes sites as C allows.
abbrev pub IsRoutineIn : (ℕ → ℕ → Type 0) → ℕ → ℕ → ℕ → Routine → Type 0
IsRoutineIn C k n d (give s x) = IsSourceIn C n d x
IsRoutineIn C k n d (keep s x i r) = IsSourceIn C n d x × (i ≤ d) × IsRoutineIn C k n (i + 1) r
IsRoutineIn C k n d (pick s x r q) = IsSourceIn C n d x × IsRoutineIn C k n d r × IsRoutineIn C k n d q
IsRoutineIn C k n d (point s p r q) = (p < k) × IsRoutineIn C k n d r × IsRoutineIn C k n d q

-- A purpose that names some of n arguments, d locals and k points, and invokes sites as C allows.
abbrev pub IsPurposeIn : (ℕ → ℕ → Type 0) → ℕ → ℕ → ℕ → Purpose → Type 0
IsPurposeIn C k n d answer = Unit {0}
IsPurposeIn C k n d (local i r) = (i ≤ d) × IsRoutineIn C k n (i + 1) r
IsPurposeIn C k n d (truth r q) = IsRoutineIn C k n d r × IsRoutineIn C k n d q
IsPurposeIn C k n d (untruth r q) = IsRoutineIn C k n d r × IsRoutineIn C k n d q
