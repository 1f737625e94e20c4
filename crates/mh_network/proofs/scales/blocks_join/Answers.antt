use Rattle.mh_network.proofs.Contracting.{block_joins, scale_blocks_join}
use Rattle.mh_network.proofs.Solving.{blocks_solve}
use Rattle.mh_network.proofs.scales.blocks_join.Goals as goal

pub returns : goal.returns
returns c = record { cheaper = block_joins; scales = scale_blocks_join; solve = blocks_solve }
