use Rattle.std.proofs.Common.{◌≡◌, ◌+◌, ℕ, length, slice_index, take}
use Rattle.mh_network.specs.Selection.{into_charge}
use Rattle.mh_cert.proofs.bounds.pays.Given as goal

abbrev pub invariant-loop-charge : goal.invariant-loop-charge
invariant-loop-charge l = record {
  count : length l.left.items ≡ length l.fn.left.items;
  left : (k : ℕ) → slice_index l.left.items k + into_charge (take l.charge-index l.charges) k ≡ slice_index l.fn.left.items k;
}
