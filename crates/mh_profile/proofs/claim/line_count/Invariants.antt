use Rattle.std.proofs.Common.{◌≡◌, ◌==◌, ◌+◌, ◌≤◌, take}
use Rattle.std.specs.List.{count_by}
use Rattle.mh_profile.proofs.claim.line_count.Given as goal

abbrev pub invariant-loop-byte : goal.invariant-loop-byte
invariant-loop-byte l = record {
  number : l.number ≡ count_by (λ b. b == 10) (take l.byte-index l.bytes) + 1;
  few : l.number ≤ l.byte-index + 1;
}
