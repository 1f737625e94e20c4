use Rattle.std.proofs.Common.{◌≡◌, ◌≤◌, ◌^◌, ◌+◌, ◌∙◌, ap, arith, take}
use Rattle.std.specs.List.{sum_by}
use Rattle.std.proofs.lemmas.List.{take_all}
use Rattle.std.proofs.lemmas.List.Sums.{sum_by_more_le}
use Rattle.mh_network.specs.Problems.{charge_of, sum_of_charges, sum_of_costs}
use Rattle.mh_network.specs.Selection.{charge_sum, member}
use Rattle.mh_cert.proofs.sums.charge_of_links.Goals as goal

pub overflow_add-sum : goal.overflow_add-sum
overflow_add-sum c =
    let whole : sum_by (charge_of c.args.problem.now) c.args.links.now ≡ charge_sum c.args.problem.now (member c.args.links.now) = c.lists_add_up.ensures.charges c.args.problem.now c.args.links.now c.requires.ascending c.requires.inside in
    let within : charge_sum c.args.problem.now (member c.args.links.now) ≤ sum_of_charges c.args.problem.now = c.lists_add_up.ensures.charges_within c.args.problem.now (member c.args.links.now) in
    let few : sum_of_costs c.args.problem.now + sum_of_charges c.args.problem.now ≤ 2 ^ 62 = c.requires.problem.costs in
    let part = sum_by_more_le (charge_of c.args.problem.now) c.args.links.now c.loop-link.link-index 0 (omega arith) in
    omega arith

pub returns : goal.returns
returns c =
    let all : sum_by (charge_of c.args.problem.now) (take c.loop-link.link-index c.args.links.now) ≡ sum_by (charge_of c.args.problem.now) c.args.links.now =
    ap (sum_by (charge_of c.args.problem.now)) (take_all c.loop-link.link-index c.args.links.now c.loop-link-test.false) in
    let whole : sum_by (charge_of c.args.problem.now) c.args.links.now ≡ charge_sum c.args.problem.now (member c.args.links.now) = c.lists_add_up.ensures.charges c.args.problem.now c.args.links.now c.requires.ascending c.requires.inside in
    let within : charge_sum c.args.problem.now (member c.args.links.now) ≤ sum_of_charges c.args.problem.now = c.lists_add_up.ensures.charges_within c.args.problem.now (member c.args.links.now) in
    let value : c.loop-link.sum ≡ charge_sum c.args.problem.now (member c.args.links.now) = c.loop-link.invariant ∙ (all ∙ whole) in
    record { value = value; within = omega arith }
