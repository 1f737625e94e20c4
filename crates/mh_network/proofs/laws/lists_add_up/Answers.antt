use Rattle.std.proofs.Common.{length}
use Rattle.mh_network.specs.Problems.{charge_of, cost_of, gain_of}
use Rattle.mh_network.proofs.Listed.{charges_within, costs_within, gains_within, needed_by_some}
use Rattle.mh_network.specs.Laws.Members.{listed_sum}
use Rattle.mh_network.proofs.laws.lists_add_up.Goals as goal

pub returns : goal.returns
returns c = record {
  gains = λ P links ascending inside. listed_sum (gain_of P) (length P.links) links ascending inside;
  charges = λ P links ascending inside. listed_sum (charge_of P) (length P.links) links ascending inside;
  costs = λ P points ascending inside. listed_sum (cost_of P) (length P.costs) points ascending inside;
  gains_within = gains_within;
  charges_within = charges_within;
  costs_within = costs_within;
  needed = needed_by_some;
}
