use Rattle.mh_network.proofs.Listed.{amounts_within}
use Rattle.mh_network.proofs.laws.amounts_are_within_gains.Goals as goal

pub returns : goal.returns
returns c = record { within = amounts_within }
