use Rattle.std.proofs.Common.{◌≤◌, ◌^◌, arith}
use Rattle.mh_network.specs.Problems.{sum_of_gains}
use Rattle.mh_network.specs.Selection.{value_of}
use Rattle.mh_cert.proofs.sums.balances.Goals as goal

pub overflow_cast-carried : goal.overflow_cast-carried
overflow_cast-carried c =
    let within : value_of c.args.flow.now c.args.charges.now ≤ sum_of_gains c.args.problem.now = c.amounts_are_within_gains.ensures.within c.args.problem.now c.args.flow.now c.args.charges.now c.requires.needed c.requires.listed c.requires.gains in
    let small : sum_of_gains c.args.problem.now ≤ 2 ^ 62 = c.requires.problem.gains in
    omega (arith, c.carried.ensures.value)

pub is_difference-requires-clause-other : goal.is_difference-requires-clause-other
is_difference-requires-clause-other c =
    let within : value_of c.args.flow.now c.args.charges.now ≤ sum_of_gains c.args.problem.now = c.amounts_are_within_gains.ensures.within c.args.problem.now c.args.flow.now c.args.charges.now c.requires.needed c.requires.listed c.requires.gains in
    let small : sum_of_gains c.args.problem.now ≤ 2 ^ 62 = c.requires.problem.gains in
    omega (arith, c.carried.ensures.value)
