use Rattle.std.proofs.Common.{◌≡◌, ◌<◌, ℕ, length, slice_index}
use Rattle.mh_network.specs.Problems.{gain_of}
use Rattle.mh_cert.proofs.bounds.gains.Given as goal

abbrev pub invariant-loop-link : goal.invariant-loop-link
invariant-loop-link l = record {
  count : length l.gains.items ≡ l.link;
  same : (j : ℕ) → j < l.link → slice_index l.gains.items j ≡ gain_of l.problem j;
}
