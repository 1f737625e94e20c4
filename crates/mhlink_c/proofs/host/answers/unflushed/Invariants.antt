use Rattle.std.proofs.Common.{◌≡◌, ◌≤◌, ◌*◌, ◌^◌, take}
use Rattle.mhlink_c.specs.Texts.{unflushed_of}
use Rattle.mhlink_c.proofs.host.answers.unflushed.Given as goal

-- the hits in the first ledgers
abbrev pub invariant-loop-ledger : goal.invariant-loop-ledger
invariant-loop-ledger l = record { value : l.sum ≡ unflushed_of (take l.ledger-index l.ledgers) l.link; within : l.sum ≤ l.ledger-index * 2 ^ 62 }
