use Rattle.std.proofs.Common.{◌≡◌, ℕ, length, slice_index, take}
use Rattle.mh_network.specs.Selection.{into_point}
use Rattle.mhlink_c.proofs.amounts.got_by.Given as goal

abbrev pub invariant-loop-row : goal.invariant-loop-row
invariant-loop-row l = record {
  count : length l.gets.items ≡ l.count;
  so_far : (p : ℕ) → slice_index l.gets.items p ≡ into_point (take l.row-index l.flow) p;
}
