use Rattle.std.proofs.Common.{◌≡◌, ◌≤◌, ◌*◌, take}
use Rattle.std.specs.List.{sum_by}
use Rattle.mh_network.specs.Problems.{charge_of, gain_of}
use Rattle.mh_profile.proofs.plan_lines.gains_and_charges.Given as goal

-- each amount is below 2^64
abbrev pub invariant-loop-link : goal.invariant-loop-link
invariant-loop-link l = record {
  gains : l.gains ≡ sum_by (gain_of l.problem) (take l.link-index l.links);
  charges : l.charges ≡ sum_by (charge_of l.problem) (take l.link-index l.links);
  small : l.gains ≤ l.link-index * 18446744073709551615;
  small_too : l.charges ≤ l.link-index * 18446744073709551615;
}
