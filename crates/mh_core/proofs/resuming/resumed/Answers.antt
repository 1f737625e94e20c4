use Rattle.mh_core.proofs.Resumed.{runtime_resumed}
use Rattle.mh_core.proofs.resuming.resumed.Goals as goal

pub invariant_of-result : goal.invariant_of-result
invariant_of-result c =
    runtime_resumed c.args.definition.now c.args.workers c.args.limits c.args.invalid c.args.hits.now c.in_ok-book.book c.in_ok-book.ledgers.items c.requires.passes.1.1.0
    c.in_ok-book.ensures.book c.in_ok-book.ensures.ledgers c.in_ok-book.ensures.held
