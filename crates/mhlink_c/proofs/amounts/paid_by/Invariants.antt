use Rattle.std.proofs.Common.{◌≡◌, ℕ, length, slice_index, take}
use Rattle.mh_network.specs.Selection.{into_charge}
use Rattle.mhlink_c.proofs.amounts.paid_by.Given as goal

abbrev pub invariant-loop-charge : goal.invariant-loop-charge
invariant-loop-charge l = record {
  count : length l.paid.items ≡ l.count;
  so_far : (j : ℕ) → slice_index l.paid.items j ≡ into_charge (take l.charge-index l.charges) j;
}
