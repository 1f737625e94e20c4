use Rattle.std.proofs.Common.{◌≡◌, map}
use Rattle.mh_share.specs.Callers.{caller_by}
use Rattle.mh_share.proofs.desk.callers.Given as goal

abbrev pub invariant-loop-ledger : goal.invariant-loop-ledger
invariant-loop-ledger l = l.callers.items ≡ map (caller_by l.shown.value) l.yielded
