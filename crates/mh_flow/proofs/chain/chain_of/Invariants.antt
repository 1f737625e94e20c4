use Rattle.mh_flow.specs.Carried.{number_at}
use Rattle.mh_flow.specs.Chains.{IsChained}
use Rattle.mh_flow.proofs.chain.chain_of.Given as goal

abbrev pub invariant-loop-at : goal.invariant-loop-at
invariant-loop-at l = IsChained (number_at l.keys) l.at l.count l.last.items l.before.items
