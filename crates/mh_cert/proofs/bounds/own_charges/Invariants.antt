use Rattle.std.proofs.Common.{◌≡◌, ◌<◌, ℕ, length, slice_index}
use Rattle.mh_network.specs.Problems.{charge_of}
use Rattle.mh_cert.proofs.bounds.own_charges.Given as goal

abbrev pub invariant-loop-link : goal.invariant-loop-link
invariant-loop-link l = record {
  count : length l.charges.items ≡ l.link;
  same : (j : ℕ) → j < l.link → slice_index l.charges.items j ≡ charge_of l.problem j;
}
