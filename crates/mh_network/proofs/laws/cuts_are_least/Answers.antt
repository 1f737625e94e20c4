use Rattle.mh_network.proofs.Cuts.{cut_least}
use Rattle.mh_network.proofs.laws.cuts_are_least.Goals as goal

pub returns : goal.returns
returns c = record { least = cut_least }
