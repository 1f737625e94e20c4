use Rattle.std.specs.Prelude.{nat_lt}
use Rattle.mh_flow.specs.Carried.{number_at}
use Rattle.mh_flow.specs.Levels.{far}
use Rattle.mh_flow.proofs.Reached.{ArePassing}
use Rattle.mh_flow.proofs.outcome.reached_links.Given as goal

abbrev pub invariant-loop-link : goal.invariant-loop-link
invariant-loop-link l = ArePassing (λ j. nat_lt (number_at l.levels j) far) l.reached.items l.link
