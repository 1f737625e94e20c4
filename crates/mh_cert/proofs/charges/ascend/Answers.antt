use Rattle.std.proofs.Common.{arith}
use Rattle.mh_network.specs.Selection.{IsChargeBefore}
use Rattle.mh_cert.proofs.Orders.{charge_later, pairs_more}
use Rattle.mh_cert.proofs.charges.ascend.Goals as goal

pub loop-next-preserved : goal.loop-next-preserved
loop-next-preserved c =
    pairs_more IsChargeBefore charge_later (0, 0) c.args.charges.now c.loop-next.next (omega arith) c.loop-next.invariant c.loop-next-test.true (omega arith)
