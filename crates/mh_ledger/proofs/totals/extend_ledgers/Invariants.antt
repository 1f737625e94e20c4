use Rattle.std.proofs.Common.{◌≡◌, map, take}
use Rattle.mh_ledger.specs.Extensions.{extended_ledger}
use Rattle.mh_ledger.proofs.totals.extend_ledgers.Given as goal

abbrev pub invariant-loop-ledger : goal.invariant-loop-ledger
invariant-loop-ledger l = l.all.items ≡ map (extended_ledger l.more) (take l.ledger-index l.ledgers)
