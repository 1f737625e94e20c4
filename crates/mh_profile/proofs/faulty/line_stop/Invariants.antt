use Rattle.std.proofs.Common.{◌≤◌, ◌-◌, length}
use Rattle.mh_profile.proofs.faulty.line_stop.Given as goal

abbrev pub invariant-loop-at : goal.invariant-loop-at
invariant-loop-at l = record {
  inside : l.at ≤ length l.lines;
}

abbrev pub decreases-loop-at : goal.decreases-loop-at
decreases-loop-at l = length l.lines - l.at
