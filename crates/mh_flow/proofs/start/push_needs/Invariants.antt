use Rattle.std.proofs.Common.{◌≡◌, ◌++◌, take}
use Rattle.std.specs.Prelude.{map}
use Rattle.mh_flow.proofs.start.push_needs.Given as goal

abbrev pub invariant-loop-point : goal.invariant-loop-point
invariant-loop-point l = l.rows.items ≡ l.initial.rows.items ++ map (λ p. record { link = l.link; point = p; amount = 0 }) (take l.point-index l.needs)
