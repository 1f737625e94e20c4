use Rattle.std.proofs.Common.{◌<◌, All, rules, tests}
use Rattle.std.proofs.lemmas.Iterator.{IsFirst-from_position, YieldsList-from_slice}
use Rattle.mh_network.proofs.Placing.{first_not}
use Rattle.mh_network.proofs.row_rules.with_unknown_need.Goals as goal

pub returns : goal.returns
returns c =
    let rows = c.args.rows.now in
    record { value = first_not (λ r. All (λ p. p < c.args.points) r.needs) rows _ (IsFirst-from_position _ _ _ (λ r. All (λ p. p < c.args.points) r.needs → ⊥) (λ r. All (λ p. p < c.args.points) r.needs) c.position.ensures.ran (YieldsList-from_slice rows cc) (λ x q k. search (rules, tests)) (λ x q k. search (rules, tests))) }
