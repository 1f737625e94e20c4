use Rattle.std.proofs.Common.{rules}
use Rattle.mh_flow.proofs.Bounds.{bounded_points}
use Rattle.mh_flow.proofs.levels.settle_point.Goals as goal

pub returns-clause-levels : goal.returns-clause-levels
returns-clause-levels c = record { range = search rules; supported = search rules; bounded = search (rules, bounded_points) }
