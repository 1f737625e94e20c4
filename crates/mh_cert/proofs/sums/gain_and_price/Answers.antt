use Rattle.std.proofs.Common.{◌∙◌, arith}
use Rattle.mh_cert.proofs.Within.{links_in_range, points_in_range, listed_cost}
use Rattle.mh_cert.proofs.sums.gain_and_price.Goals as goal

pub gain_of_links-requires-clause-inside : goal.gain_of_links-requires-clause-inside
gain_of_links-requires-clause-inside c = links_in_range c.args.problem.now c.args.links.now c.requires.eligible

pub cost_of_points-requires-clause-inside : goal.cost_of_points-requires-clause-inside
cost_of_points-requires-clause-inside c = points_in_range c.args.problem.now c.requires.problem c.args.links.now c.args.points.now (λ p. c.requires.union.same p ∙ c.lists_add_up.ensures.needed c.args.problem.now c.args.links.now p)

pub charge_of_links-requires-clause-inside : goal.charge_of_links-requires-clause-inside
charge_of_links-requires-clause-inside c = links_in_range c.args.problem.now c.args.links.now c.requires.eligible

pub returns-clause-price : goal.returns-clause-price
returns-clause-price c = omega (arith, c.cost_of_points.ensures.value, listed_cost c.args.problem.now c.args.links.now c.args.points.now c.requires.union, c.charge_of_links.ensures.value)
