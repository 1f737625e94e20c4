use Rattle.std.proofs.Common.{◌≡◌, ℕ, length, slice_index, take}
use Rattle.mhlink_c.specs.Flows.{given_for}
use Rattle.mhlink_c.proofs.amounts.given_for.Given as goal

abbrev pub invariant-loop-row : goal.invariant-loop-row
invariant-loop-row l = record {
  count : length l.given.items ≡ length l.needs;
  so_far : (k : ℕ) → slice_index l.given.items k ≡ given_for l.needs l.links (take l.row-index l.flow) k;
}
