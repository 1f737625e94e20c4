use Rattle.std.proofs.Common.{◌≡◌, ◌≤◌, ◌+◌, ◌-◌, length}
use Rattle.std.specs.Io.KnownBytes.{Consumes}
use Rattle.mh_profile.specs.Limits.{most_in_all}
use Rattle.mh_profile.proofs.kept.read_front.Given as goal

-- what was read, which is within the limit and a byte more
abbrev pub invariant-loop-buffer : goal.invariant-loop-buffer
invariant-loop-buffer g l = record {
  kept : l.reader.failures ≡ l.initial.reader.failures;
  taken : Consumes (g.R.Read.remaining l.initial.reader.inner) (g.R.Read.remaining l.reader.inner) l.front.items;
  within : length l.front.items ≤ most_in_all + 1;
}

abbrev pub decreases-loop-buffer : goal.decreases-loop-buffer
decreases-loop-buffer g l = most_in_all + 1 - length l.front.items
