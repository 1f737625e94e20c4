use Rattle.std.proofs.Common.{◌≡◌, ◌+◌, ℕ, length, slice_index, take}
use Rattle.mh_cert.specs.inner.Ends.{end_of}
use Rattle.mh_network.specs.Sums.{amount_at}
use Rattle.mh_cert.proofs.bounds.covers.Given as goal

abbrev pub invariant-loop-row : goal.invariant-loop-row
invariant-loop-row l = record {
  count : length l.left.items ≡ length l.fn.left.items;
  left : (k : ℕ) → slice_index l.left.items k + amount_at (end_of l.end) (λ r. r.2) (take l.row-index l.flow) k ≡ slice_index l.fn.left.items k;
}
