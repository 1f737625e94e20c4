use Rattle.mh_network.proofs.Solving.{most_for_cost}
use Rattle.mh_network.proofs.scales.scales_are_budgets.Goals as goal

pub returns : goal.returns
returns c = record { most = most_for_cost }
