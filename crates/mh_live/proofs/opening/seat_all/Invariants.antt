use Rattle.std.proofs.Common.{◌≡◌, map, vec_capacity}
use Rattle.mh_live.specs.Passes.{new_pass}
use Rattle.mh_live.proofs.opening.seat_all.Given as goal

abbrev pub invariant-loop-seat : goal.invariant-loop-seat
invariant-loop-seat g l = (l.passes.items ≡ map (λ s. new_pass s.ledger) l.yielded) × (vec_capacity l.passes ≡ vec_capacity l.fn.passes)
