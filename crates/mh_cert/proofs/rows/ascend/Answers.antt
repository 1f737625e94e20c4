use Rattle.std.proofs.Common.{arith}
use Rattle.mh_network.specs.Selection.{IsBefore}
use Rattle.mh_cert.proofs.Orders.{before_later, pairs_more}
use Rattle.mh_cert.proofs.rows.ascend.Goals as goal

pub loop-next-preserved : goal.loop-next-preserved
loop-next-preserved c =
    pairs_more IsBefore before_later (0, 0, 0) c.args.flow.now c.loop-next.next (omega arith) c.loop-next.invariant c.loop-next-test.true (c.is_before.ensures.value.0 c.if-not-is_before.false)
