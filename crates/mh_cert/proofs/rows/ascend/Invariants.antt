use Rattle.std.proofs.Common.{◌<◌, ℕ, slice_index_or}
use Rattle.mh_network.specs.Selection.{Row, IsBefore}
use Rattle.mh_cert.proofs.rows.ascend.Given as goal

abbrev pub invariant-loop-next : goal.invariant-loop-next
invariant-loop-next l = (i j : ℕ) (d : Row) → i < j → j < l.next → IsBefore (slice_index_or l.flow i d) (slice_index_or l.flow j d)
