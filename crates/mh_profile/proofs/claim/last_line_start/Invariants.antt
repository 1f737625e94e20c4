use Rattle.std.proofs.Common.{◌≡◌, ◌==◌, ◌≤◌, length, false}
use Rattle.std.specs.List.{AllWithin}
use Rattle.mh_profile.proofs.claim.last_line_start.Given as goal

abbrev pub invariant-loop-start : goal.invariant-loop-start
invariant-loop-start l = record {
  inside : l.start ≤ length l.bytes;
  one_line : AllWithin (λ b. (b == 10) ≡ false) l.bytes l.start (length l.bytes);
}

abbrev pub decreases-loop-start : goal.decreases-loop-start
decreases-loop-start l = l.start
