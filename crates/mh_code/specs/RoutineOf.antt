-- The routine of prepared code: each part of it knows the use of its value.
use Rattle.std.specs.Prelude.{ℕ, ◌+◌, ◌==◌, Bool, true, false, ◌&&◌, Option, Some, None, if◌then◌else◌}
use Rattle.std.specs.Option.{unwrap_or}
use Rattle.mh_type.specs.Kinds.{kind_eq}
use Rattle.mh_type.specs.Operations.{op_signature}
use Rattle.mh_type.specs.declared.kind.Kind.TheVariants as kind
use Rattle.mh_type.specs.declared.operation.Op.{Op}
use Rattle.mh_type.specs.declared.operation.Op.TheVariants.{Not}
use Rattle.mh_tree.specs.Code.{Code, leaf, apply, bind, branch, point as point_code, invoke}
use Rattle.mh_tree.specs.Handle.{TypedTree}
use Rattle.mh_tree.specs.Prepared.{handle_code}
use Rattle.mh_tree.specs.declared.operand.Operand.{Operand}
use Rattle.mh_tree.specs.declared.operand.Operand.TheVariants.{Local}
use Rattle.mh_code.specs.Routine.{Source, operand, operation, invocation, Routine, give, keep, pick, point, Purpose, answer, local, truth, untruth}

-- whether an operation returns a truth, which it does for any values
abbrev pub gives_truth : Op → Bool
gives_truth op = kind_eq (op_signature op).ret kind.Boolean

-- A source whose truth chooses, below d locals. The value of an invocation is stored before it chooses.
abbrev pub tested : ℕ → ℕ → Source → Routine → Routine → Routine
tested d s (operand o) r q = pick s (operand o) r q
tested d s (operation op x y) r q = pick s (operation op x y) r q
tested d s (invocation site os) r q = keep s (invocation site os) d (pick 0 (operand (Local d)) r q)

-- a local whose `not` chooses
abbrev pub negated_local : ℕ → Routine → Routine → Routine
negated_local i r q = pick 1 (operation Not (Local i) (Local i)) r q

-- A source whose `not` chooses. An operation that returns a truth chooses the other one itself; any other value is stored and then negated.
abbrev pub negated : ℕ → ℕ → Source → Routine → Routine → Routine
negated d s (operand o) r q = keep s (operand o) d (negated_local d r q)
negated d s (operation op x y) r q =
    if gives_truth op then pick (s + 1) (operation op x y) q r else keep s (operation op x y) d (negated_local d r q)
negated d s (invocation site os) r q = keep s (invocation site os) d (negated_local d r q)

-- a source, and the use of its value
abbrev pub used : ℕ → ℕ → Source → Purpose → Routine
used d s x answer = give s x
used d s x (local i r) = keep s x i r
used d s x (truth r q) = tested d s x r q
used d s x (untruth r q) = negated d s x r q

abbrev pub is_not : Op → Bool
is_not Not = true
is_not _ = false

abbrev pub is_local : ℕ → Operand → Bool
is_local i (Local j) = i == j
is_local i _ = false

-- whether code is the operation `not` on the local i, in one step
abbrev pub negates : ℕ → Code → Bool
negates i (apply n op x y) = ((n == 1) && is_not op) && is_local i x
negates i _ = false

-- the use of a value, if the following code c only negates it, as the local i, and its `not` chooses
abbrev pub purpose_before : ℕ → Code → Purpose → Option Purpose
purpose_before i c (truth r q) = if negates i c then Some (untruth r q) else None
purpose_before i c _ = None

-- the use of the first of two parts: in general a local, which the second part c with the routine r reads
abbrev pub bound : ℕ → Code → Purpose → Routine → Purpose
bound d c u r = unwrap_or (purpose_before d c u) (local d r)

-- code below d locals, with s steps before it, and the use of its value
abbrev pub routine : Code → ℕ → ℕ → Purpose → Routine
routine (leaf n o) d s u = used d (s + n) (operand o) u
routine (apply n op x y) d s u = used d (s + n) (operation op x y) u
routine (bind n f g) d s u = routine f d (s + n) (bound d g u (routine g (d + 1) 0 u))
routine (branch n c x y) d s u = routine c d (s + n) (truth (routine x d 0 u) (routine y d 0 u))
routine (point_code n p x y) d s u = point (s + n) p (routine x d 0 u) (routine y d 0 u)
routine (invoke n site os) d s u = used d (s + n) (invocation site os) u

-- the routine of a handle
abbrev pub handle_routine : TypedTree → Routine
handle_routine h = routine (handle_code h) 0 0 answer

-- a routine with steps before it
abbrev pub after_steps : ℕ → Routine → Routine
after_steps s (give n x) = give (s + n) x
after_steps s (keep n x i r) = keep (s + n) x i r
after_steps s (pick n x r q) = pick (s + n) x r q
after_steps s (point n p r q) = point (s + n) p r q
