use Rattle.std.proofs.Common.{◌<◌, ℕ, slice_index_or}
use Rattle.mh_network.specs.Selection.{Charge, IsChargeBefore}
use Rattle.mh_cert.proofs.charges.ascend.Given as goal

abbrev pub invariant-loop-next : goal.invariant-loop-next
invariant-loop-next l = (i j : ℕ) (d : Charge) → i < j → j < l.next → IsChargeBefore (slice_index_or l.charges i d) (slice_index_or l.charges j d)
