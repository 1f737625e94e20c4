use Rattle.mh_network.proofs.Scaling.{block_is_problem}
use Rattle.mh_network.proofs.scales.blocks_are_problems.Goals as goal

pub returns : goal.returns
returns c = record { problem = block_is_problem }
