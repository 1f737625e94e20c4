use Rattle.std.proofs.Common.{◌-◌}
use Rattle.mh_sweep.proofs.block.+solve_block.Given as goal

abbrev pub decreases-solve_block : goal.decreases-solve_block
decreases-solve_block l = l.span.last - l.span.first
