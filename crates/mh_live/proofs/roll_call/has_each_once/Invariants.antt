use Rattle.std.proofs.Common.{◌≡◌, ◌<◌, ◌==◌, ℕ}
use Rattle.std.specs.List.{count_by}
use Rattle.mh_live.proofs.roll_call.has_each_once.Given as goal

abbrev pub invariant-loop-worker : goal.invariant-loop-worker
invariant-loop-worker g l = (w : ℕ) → w < l.worker → count_by (λ p. p.ledger.worker == w) l.passes ≡ 1
