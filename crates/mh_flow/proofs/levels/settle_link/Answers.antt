use Rattle.std.proofs.Common.{rules}
use Rattle.mh_flow.proofs.Bounds.{bounded_links}
use Rattle.mh_flow.proofs.levels.settle_link.Goals as goal

pub returns-then-row-gt0-clause-levels : goal.returns-then-row-gt0-clause-levels
returns-then-row-gt0-clause-levels c = record { range = search rules; supported = search rules; bounded = search (rules, bounded_links) }
