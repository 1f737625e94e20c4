use Rattle.std.proofs.Common.{◌≤◌, ◌+◌, arith, length}
use Rattle.mh_code.proofs.PlacesBehind.{filters_behind}
use Rattle.mh_code.proofs.preparing.after.Goals as goal

pub returns : goal.returns
returns c =
    let past : length c.args.operands.now ≤ c.args.place = omega (arith, c.if-place-operands.false) in
    record {
      value = λ fs d s go env same. filters_behind fs c.args.place (c.args.place + 1) env d s go (omega (arith, past, same)) (omega (arith, past, same));
    }
