use Rattle.std.proofs.Common.{◌≡◌, ◌≤◌, ◌^◌, ◌+◌, ◌∙◌, ap, arith, take}
use Rattle.std.specs.List.{sum_by}
use Rattle.std.proofs.lemmas.List.{take_all}
use Rattle.std.proofs.lemmas.List.Sums.{sum_by_more_le}
use Rattle.mh_network.specs.Problems.{cost_of, sum_of_charges, sum_of_costs}
use Rattle.mh_network.specs.Selection.{cost_sum, member}
use Rattle.mh_cert.proofs.sums.cost_of_points.Goals as goal

pub overflow_add-sum : goal.overflow_add-sum
overflow_add-sum c =
    let whole : sum_by (cost_of c.args.problem.now) c.args.points.now ≡ cost_sum c.args.problem.now (member c.args.points.now) = c.lists_add_up.ensures.costs c.args.problem.now c.args.points.now c.requires.ascending c.requires.inside in
    let within : cost_sum c.args.problem.now (member c.args.points.now) ≤ sum_of_costs c.args.problem.now = c.lists_add_up.ensures.costs_within c.args.problem.now (member c.args.points.now) in
    let few : sum_of_costs c.args.problem.now + sum_of_charges c.args.problem.now ≤ 2 ^ 62 = c.requires.problem.costs in
    let part = sum_by_more_le (cost_of c.args.problem.now) c.args.points.now c.loop-point.point-index 0 (omega arith) in
    omega arith

pub returns : goal.returns
returns c =
    let all : sum_by (cost_of c.args.problem.now) (take c.loop-point.point-index c.args.points.now) ≡ sum_by (cost_of c.args.problem.now) c.args.points.now =
    ap (sum_by (cost_of c.args.problem.now)) (take_all c.loop-point.point-index c.args.points.now c.loop-point-test.false) in
    let whole : sum_by (cost_of c.args.problem.now) c.args.points.now ≡ cost_sum c.args.problem.now (member c.args.points.now) = c.lists_add_up.ensures.costs c.args.problem.now c.args.points.now c.requires.ascending c.requires.inside in
    let within : cost_sum c.args.problem.now (member c.args.points.now) ≤ sum_of_costs c.args.problem.now = c.lists_add_up.ensures.costs_within c.args.problem.now (member c.args.points.now) in
    let value : c.loop-point.sum ≡ cost_sum c.args.problem.now (member c.args.points.now) = c.loop-point.invariant ∙ (all ∙ whole) in
    record { value = value; within = omega arith }
