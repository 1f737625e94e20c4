use Rattle.mh_core.proofs.Runtimes.{runtime_opened}
use Rattle.mh_core.proofs.runtime.Runtime.open.Goals as goal

pub invariant_of-result : goal.invariant_of-result
invariant_of-result c =
    runtime_opened c.args.definition.now c.args.limits c.in_ok-book.book c.args.workers c.in_ok-book.ledgers.items c.in_ok-book.ensures.book c.in_ok-book.ensures.ledgers c.in_ok-book.ensures.held
