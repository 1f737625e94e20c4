use Rattle.std.proofs.Common.{arith}
use Rattle.mh_share.specs.Callers.{CallerState}
use Rattle.mh_share.specs.Laws.{all_taken, all_with}
use Rattle.mh_share.specs.Renewals.{with_ledger}
use Rattle.mh_share.proofs.NoCaller.{no_caller}
use Rattle.mh_share.proofs.renewing.exchange_all.Goals as goal

pub returns-clause-callers : goal.returns-clause-callers
returns-clause-callers c =
    let i = c.loop-worker.invariant in
    all_with (λ (x : CallerState). x.ledger) with_ledger no_caller _ _ _ c.requires.count i.callers (λ w inside. i.given w (omega (arith, inside, i.callers)))

pub returns-clause-ledgers : goal.returns-clause-ledgers
returns-clause-ledgers c =
    let i = c.loop-worker.invariant in
    let count = c.requires.count in
    all_taken (λ (x : CallerState). x.ledger) with_ledger no_caller _ _ (omega (arith, i.ledgers, count)) (λ w inside. i.taken w (omega (arith, inside, i.callers)))
