use Rattle.std.proofs.Common.{◌≡◌, ◌-◌, List, ℕ, length}
use Rattle.std.specs.Io.KnownBytes.{Consumes}
use Rattle.mh_profile.specs.Readers.{taken_by, IsReading}
use Rattle.mh_profile.proofs.Streaming.{HasTaken}
use Rattle.mh_profile.proofs.streams.read_profile.Given as goal

-- what was read, and that it was taken
abbrev pub invariant-chunks : goal.invariant-chunks
invariant-chunks g l = record {
  kept : l.reader.failures ≡ l.initial.reader.failures;
  reading : IsReading l.lines;
  taken : (front : List ℕ) × Consumes (g.R.Read.remaining l.initial.reader.inner) (g.R.Read.remaining l.reader.inner) front × HasTaken front l.lines;
  counted : (front : List ℕ) × Consumes (g.R.Read.remaining l.initial.reader.inner) (g.R.Read.remaining l.reader.inner) front × (length front ≡ taken_by l.lines);
}

abbrev pub decreases-chunks : goal.decreases-chunks
decreases-chunks g l = 67108864 - taken_by l.lines
