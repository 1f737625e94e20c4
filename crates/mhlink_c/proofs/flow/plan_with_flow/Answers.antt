use Rattle.std.proofs.Common.{◌≤◌, ◌<◌, length, List, subst, sym}
use Rattle.std.specs.List.{All, sum_by}
use Rattle.mh_network.specs.Limits.{greatest_sum}
use Rattle.mh_network.specs.Selection.{Charge, Row}
use Rattle.mhlink_c.specs.Flows.{IsRowOf}
use Rattle.mhlink_c.proofs.Planned.{points_are, rows_are, small}
use Rattle.mhlink_c.proofs.flow.plan_with_flow.Goals as goal

pub paid_by-requires-clause-small : goal.paid_by-requires-clause-small
paid_by-requires-clause-small c =
    subst (λ (charges : List Charge). sum_by (λ r. r.1) charges ≤ greatest_sum) (sym c.as_slice.ensures.value)
    (small c.args.needs.now c.args.links.now c.args.costs.now c.in_ok-plan.plan c.in_ok-plan.ensures.tested c.in_ok-plan.ensures.plan.matching c.amounts_are_within_gains.ensures.within).1

pub given_for-requires-clause-rows : goal.given_for-requires-clause-rows
given_for-requires-clause-rows c =
    subst (λ (rows : List Row). All (IsRowOf c.args.needs.now c.args.links.now) rows) (sym c.as_slice-flow.ensures.value)
    (rows_are c.args.needs.now c.args.links.now c.args.costs.now c.in_ok-plan.plan c.in_ok-plan.ensures.tested c.in_ok-plan.ensures.plan.matching)

pub given_for-requires-clause-small : goal.given_for-requires-clause-small
given_for-requires-clause-small c =
    subst (λ (rows : List Row). sum_by (λ r. r.2) rows ≤ greatest_sum) (sym c.as_slice-flow.ensures.value)
    (small c.args.needs.now c.args.links.now c.args.costs.now c.in_ok-plan.plan c.in_ok-plan.ensures.tested c.in_ok-plan.ensures.plan.matching c.amounts_are_within_gains.ensures.within).0

pub got_by-requires-clause-inside : goal.got_by-requires-clause-inside
got_by-requires-clause-inside c =
    subst (λ (rows : List Row). All (λ r. r.1 < length c.args.costs.now) rows) (sym c.as_slice-flow.ensures.value)
    (points_are c.args.needs.now c.args.links.now c.args.costs.now c.in_ok-plan.plan c.in_ok-plan.ensures.tested c.in_ok-plan.ensures.plan.matching)

pub got_by-requires-clause-small : goal.got_by-requires-clause-small
got_by-requires-clause-small c =
    subst (λ (rows : List Row). sum_by (λ r. r.2) rows ≤ greatest_sum) (sym c.as_slice-flow.ensures.value)
    (small c.args.needs.now c.args.links.now c.args.costs.now c.in_ok-plan.plan c.in_ok-plan.ensures.tested c.in_ok-plan.ensures.plan.matching c.amounts_are_within_gains.ensures.within).0
