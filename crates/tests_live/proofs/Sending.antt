-- What the calls of several threads share may cross threads.
use denote.Param.Send.{IsSync, sendable}
use Rattle.std.proofs.Crossing as crossing
use Rattle.std.specs.contracts.sync.atomic.AtomicU64 as AtomicU64

ruleset plain = (crossing.crosses, sendable)

pub word_sync : IsSync AtomicU64.the_row
word_sync = search plain depth 60 fits 20000
