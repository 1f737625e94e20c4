use Rattle.std.proofs.Common.{◌≡◌, arith, sym}
use Rattle.std.proofs.lemmas.Int.{ints}
use Rattle.mh_network.specs.Selection.{member, value_of}
use Rattle.bench.proofs.found.find_flow.Goals as goal

pub returns-clause-value : goal.returns-clause-value
returns-clause-value c =
    let run = c.in_ok-run.run' in
    let same : value_of run.rows run.charges ≡ c.carried.result = rw (c.rows.ensures.value, c.charges.ensures.value) at (sym c.carried.ensures.value) in
    record {
      rows = run.rows;
      charges = run.charges;
      flow = c.in_ok-run.ensures.flow;
      carried = same;
      greatest = λ others more flow. omega (arith, ints, same, c.in_ok-run.ensures.equal, c.flow_bounds_worth.ensures.weak others more flow (member run.reached));
    }
