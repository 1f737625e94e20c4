use Rattle.std.proofs.Common.{◌≡◌, ◌≤◌, length, false}
use Rattle.std.specs.List.{AllWithin}
use Rattle.mh_profile.specs.Claims.{is_said}
use Rattle.mh_profile.proofs.claim.said_len.Given as goal

abbrev pub invariant-loop-end : goal.invariant-loop-end
invariant-loop-end l = record {
  inside : l.end ≤ length l.bytes;
  white : AllWithin (λ b. is_said b ≡ false) l.bytes l.end (length l.bytes);
}

abbrev pub decreases-loop-end : goal.decreases-loop-end
decreases-loop-end l = l.end
