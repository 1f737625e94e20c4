use Rattle.std.proofs.Common.{◌≡◌, map}
use Rattle.mhlink_c.specs.Callers.{opened_held_caller}
use Rattle.mhlink_c.proofs.desk_opening.boxed.Given as goal

abbrev pub invariant-loop-caller : goal.invariant-loop-caller
invariant-loop-caller l = map (λ b. b.value) l.boxed.items ≡ map opened_held_caller l.yielded
