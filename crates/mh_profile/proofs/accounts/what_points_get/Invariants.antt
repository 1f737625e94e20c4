use Rattle.std.proofs.Common.{◌≡◌, ℕ, length, slice_index_or, take}
use Rattle.mh_network.specs.Selection.{into_point}
use Rattle.mh_profile.proofs.accounts.what_points_get.Given as goal

abbrev pub invariant-loop-row : goal.invariant-loop-row
invariant-loop-row l = record {
  count : length l.gets.items ≡ length l.problem.costs;
  sums : (p : ℕ) → slice_index_or l.gets.items p 0 ≡ into_point (take l.row-index l.flow) p;
}
