use Rattle.std.proofs.Common.{rules, tests}
use Rattle.std.specs.List.Sorted.{IsStrictlyIncreasing}
use Rattle.std.proofs.lemmas.Iterator.{IsFirst-from_position, YieldsList-from_slice}
use Rattle.mh_network.proofs.Placing.{first_not}
use Rattle.mh_network.proofs.row_rules.out_of_order.Goals as goal

pub returns : goal.returns
returns c =
    let rows = c.args.rows.now in
    record { value = first_not (λ r. IsStrictlyIncreasing r.needs) rows _ (IsFirst-from_position _ _ _ (λ r. IsStrictlyIncreasing r.needs → ⊥) (λ r. IsStrictlyIncreasing r.needs) c.position.ensures.ran (YieldsList-from_slice rows cc) (λ x q k. search (rules, tests)) (λ x q k. search (rules, tests))) }
