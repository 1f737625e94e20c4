use Rattle.mh_network.proofs.Cuts.{left_spend}
use Rattle.mh_network.proofs.laws.left_links_spend_all.Goals as goal

pub returns : goal.returns
returns c = record { spent = left_spend }
