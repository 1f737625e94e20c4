use Rattle.std.specs.Prelude.{IfSome}
use Rattle.bench.specs.Found.{IsFound}
use Rattle.bench.proofs.found.find.Given as goal

abbrev pub invariant-loop : goal.invariant-loop
invariant-loop l = IfSome l.found (λ f. IsFound l.problem l.task f)
