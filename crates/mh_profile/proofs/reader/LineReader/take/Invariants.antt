use Rattle.std.proofs.Common.{◌≡◌, ◌+◌, List, ℕ, ◌++◌, length, Ok}
use Rattle.mh_profile.specs.Readers.{taken_by, IsBegun, Takes}
use Rattle.mh_profile.proofs.reader.LineReader.take.Given as goal

-- what was taken of the bytes, and what is left of them
abbrev pub invariant-loop-part : goal.invariant-loop-part
invariant-loop-part l = record {
  begun : IsBegun l.reader;
  counted : taken_by l.reader + length l.rest ≡ taken_by l.fn.self + length l.bytes;
  taken : (front : List ℕ) × (l.bytes ≡ front ++ l.rest) × Takes l.fn.self front (Ok l.reader);
}

abbrev pub decreases-loop-part : goal.decreases-loop-part
decreases-loop-part l = length l.rest
