use Rattle.std.proofs.Common.{◌≤◌, ◌<◌, All, inl, inr, length, subst}
use Rattle.std.specs.List.Sorted.{IsStrictlyIncreasing}
use Rattle.std.proofs.lemmas.Bool.{leb-true}
use Rattle.std.proofs.lemmas.Result.{err_from_is_err_and}
use Rattle.mh_network.specs.declared.link_row.LinkRow.{LinkRow}
use Rattle.mh_network.specs.Places.{IsFirstNot}
use Rattle.mh_network.proofs.Placing.{both_ways, costs_decide, fails_at, first_fails, gains_decide, none_fails}
use Rattle.mh_network.proofs.row_rules.test.Goals as goal

pub returns-in_err-demand_none : goal.returns-in_err-demand_none
returns-in_err-demand_none c =
    let p = err_from_is_err_and c.from_residual-in_err-demand_none.result c.from_residual-in_err-demand_none.ensures.1 in
    let rows = c.args.rows.now in
    let few_links = leb-true (length rows) c.args.limits.now.links c.in_ok-demand_at.ensures.value in
    let few_points = leb-true (length c.args.costs.now) c.args.limits.now.points c.in_ok-demand_at-2.ensures.value in
    let few = λ (r : LinkRow). length r.needs ≤ c.args.limits.now.needs in
    let w = c.in_err-demand_none.ensures.value in
    let first = subst (IsFirstNot few rows) w.1 c.with_many_needs.ensures.value in
    rw (p.1, p.2) (record { value = inr (few_links, inr (few_points, first_fails few _ rows _ w.0 _ first w.2)) })

pub returns-in_err-demand_none-2 : goal.returns-in_err-demand_none-2
returns-in_err-demand_none-2 c =
    let p = err_from_is_err_and c.from_residual-in_err-demand_none-2.result c.from_residual-in_err-demand_none-2.ensures.1 in
    let rows = c.args.rows.now in
    let few_links = leb-true (length rows) c.args.limits.now.links c.in_ok-demand_at.ensures.value in
    let few_points = leb-true (length c.args.costs.now) c.args.limits.now.points c.in_ok-demand_at-2.ensures.value in
    let few = λ (r : LinkRow). length r.needs ≤ c.args.limits.now.needs in
    let known = λ (r : LinkRow). All (λ p. p < length c.args.costs.now) r.needs in
    let all_few = subst (IsFirstNot few rows) c.in_ok-demand_none.ensures.value c.with_many_needs.ensures.value in
    let w = c.in_err-demand_none-2.ensures.value in
    let first = subst (IsFirstNot known rows) w.1 c.with_unknown_need.ensures.value in
    rw (p.1, p.2) (record { value = inr (few_links, inr (few_points, none_fails few _ rows _ _ all_few (first_fails known _ rows _ w.0 _ first w.2))) })

pub returns-in_err-demand_none-3 : goal.returns-in_err-demand_none-3
returns-in_err-demand_none-3 c =
    let p = err_from_is_err_and c.from_residual-in_err-demand_none-3.result c.from_residual-in_err-demand_none-3.ensures.1 in
    let rows = c.args.rows.now in
    let few_links = leb-true (length rows) c.args.limits.now.links c.in_ok-demand_at.ensures.value in
    let few_points = leb-true (length c.args.costs.now) c.args.limits.now.points c.in_ok-demand_at-2.ensures.value in
    let few = λ (r : LinkRow). length r.needs ≤ c.args.limits.now.needs in
    let known = λ (r : LinkRow). All (λ p. p < length c.args.costs.now) r.needs in
    let all_few = subst (IsFirstNot few rows) c.in_ok-demand_none.ensures.value c.with_many_needs.ensures.value in
    let order = λ (r : LinkRow). IsStrictlyIncreasing r.needs in
    let all_known = subst (IsFirstNot known rows) c.in_ok-demand_none-2.ensures.value c.with_unknown_need.ensures.value in
    let w = c.in_err-demand_none-3.ensures.value in
    let first = subst (IsFirstNot order rows) w.1 c.out_of_order.ensures.value in
    rw (p.1, p.2) (record { value = inr (few_links, inr (few_points, none_fails few _ rows _ _ all_few (none_fails known _ rows _ _ all_known (first_fails order _ rows _ w.0 _ first w.2)))) })

pub returns-in_err-demand_at-3 : goal.returns-in_err-demand_at-3
returns-in_err-demand_at-3 c =
    let p = err_from_is_err_and c.from_residual-in_err-demand_at-3.result c.from_residual-in_err-demand_at-3.ensures.1 in
    let rows = c.args.rows.now in
    let few_links = leb-true (length rows) c.args.limits.now.links c.in_ok-demand_at.ensures.value in
    let few_points = leb-true (length c.args.costs.now) c.args.limits.now.points c.in_ok-demand_at-2.ensures.value in
    let few = λ (r : LinkRow). length r.needs ≤ c.args.limits.now.needs in
    let known = λ (r : LinkRow). All (λ p. p < length c.args.costs.now) r.needs in
    let all_few = subst (IsFirstNot few rows) c.in_ok-demand_none.ensures.value c.with_many_needs.ensures.value in
    let order = λ (r : LinkRow). IsStrictlyIncreasing r.needs in
    let all_known = subst (IsFirstNot known rows) c.in_ok-demand_none-2.ensures.value c.with_unknown_need.ensures.value in
    let all_order = subst (IsFirstNot order rows) c.in_ok-demand_none-3.ensures.value c.out_of_order.ensures.value in
    let gains = gains_decide rows c.args.costs.now c.gains_fit.result c.gains_fit.ensures.value in
    let w = c.in_err-demand_at-3.ensures.value in
    rw (p.1, p.2) (record { value = inr (few_links, inr (few_points, none_fails few _ rows _ _ all_few (none_fails known _ rows _ _ all_known (none_fails order _ rows _ _ all_order (inl (fails_at _ gains w.0, w.1)))))) })

pub returns : goal.returns
returns c =
    let rows = c.args.rows.now in
    let few_links = leb-true (length rows) c.args.limits.now.links c.in_ok-demand_at.ensures.value in
    let few_points = leb-true (length c.args.costs.now) c.args.limits.now.points c.in_ok-demand_at-2.ensures.value in
    let few = λ (r : LinkRow). length r.needs ≤ c.args.limits.now.needs in
    let known = λ (r : LinkRow). All (λ p. p < length c.args.costs.now) r.needs in
    let all_few = subst (IsFirstNot few rows) c.in_ok-demand_none.ensures.value c.with_many_needs.ensures.value in
    let order = λ (r : LinkRow). IsStrictlyIncreasing r.needs in
    let all_known = subst (IsFirstNot known rows) c.in_ok-demand_none-2.ensures.value c.with_unknown_need.ensures.value in
    let all_order = subst (IsFirstNot order rows) c.in_ok-demand_none-3.ensures.value c.out_of_order.ensures.value in
    let gains = (gains_decide rows c.args.costs.now c.gains_fit.result c.gains_fit.ensures.value).0 c.in_ok-demand_at-3.ensures.value in
    let costs = costs_decide rows c.args.costs.now c.costs_fit.result c.costs_fit.ensures.value in
    record {
      value = both_ways c.demand_at-4.result
          (λ _ fit. (few_links, (few_points, (all_few, (all_known, (all_order, (gains, (costs.0 fit, tt))))))))
          (λ m w. inr (few_links, inr (few_points, none_fails few _ rows _ _ all_few (none_fails known _ rows _ _ all_known (none_fails order _ rows _ _ all_order (inr (gains, inl (fails_at _ costs w.0, w.1))))))))
          c.demand_at-4.ensures.value;
    }
