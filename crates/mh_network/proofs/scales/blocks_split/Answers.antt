use Rattle.mh_network.proofs.Splitting.{blocks_split}
use Rattle.mh_network.proofs.scales.blocks_split.Goals as goal

pub returns : goal.returns
returns c = record { split = blocks_split }
