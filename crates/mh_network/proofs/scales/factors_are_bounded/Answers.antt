use Rattle.mh_network.proofs.Solving.{sure}
use Rattle.mh_network.proofs.scales.factors_are_bounded.Goals as goal

pub returns : goal.returns
returns c = record { sure = sure }
