use Rattle.std.proofs.Common.{◌≡◌, ◌≤◌, ◌+◌, ℕ, take}
use Rattle.std.specs.List.{count_by}
use Rattle.mh_ledger.specs.Ledgers.{made}
use Rattle.mh_stress.specs.Rounds.{hits_by}
use Rattle.mh_stress.proofs.rounds.make_calls.Given as goal

-- no more hits than the calls so far make
abbrev pub invariant-loop-call : goal.invariant-loop-call
invariant-loop-call g l = record {
  worker : l.pass.ledger.worker ≡ l.fn.pass.ledger.worker;
  hit : (j : ℕ) → made l.pass.ledger j ≤ made l.fn.pass.ledger j + count_by (hits_by g.N.ListName.definition l.fn.pass.ledger.worker j) (take l.call-index l.calls);
}
