use Rattle.mh_stress.proofs.Hits.{flush_made, round_made}
use Rattle.mh_stress.proofs.rounds.make_rounds.Goals as goal

pub loop-round-preserved : goal.loop-round-preserved
loop-round-preserved g c =
    round_made g.N.ListName.definition c.args.calls.now c.loop-round.round c.args.pass c.loop-round.pass c.make_calls.new.pass c.flush-receipt.new.pass c.loop-round.invariant c.make_calls.ensures.called
    (flush_made c.make_calls.new.pass c.flush-receipt.new.pass c.flush-receipt.result c.flush-receipt.ensures.ledger c.flush-receipt.ensures.kept)
