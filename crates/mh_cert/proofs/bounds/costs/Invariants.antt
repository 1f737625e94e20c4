use Rattle.std.proofs.Common.{◌≡◌, ◌<◌, ℕ, length, slice_index}
use Rattle.mh_network.specs.Problems.{cost_of}
use Rattle.mh_cert.proofs.bounds.costs.Given as goal

abbrev pub invariant-loop-point : goal.invariant-loop-point
invariant-loop-point l = record {
  count : length l.costs.items ≡ l.point;
  same : (p : ℕ) → p < l.point → slice_index l.costs.items p ≡ cost_of l.problem p;
}
