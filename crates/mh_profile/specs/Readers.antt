-- The bytes that a reader of lines has read, and those that follow.
use Rattle.std.specs.Prelude.{ℕ, ◌≡◌, ◌+◌, ◌≤◌, ◌⊎◌, true, List, ◌++◌, length, Result, Ok, Err}
use Rattle.mh_json.specs.declared.fault.Fault.{Fault}
use Rattle.mh_profile.specs.declared.profile.Profile.{Profile}
use Rattle.mh_profile.specs.declared.reader.LineReader.{LineReader}
use Rattle.mh_json.specs.Gives.{no_memory, outside}
use Rattle.mh_profile.specs.Limits.{most_in_all}
use Rattle.mh_profile.specs.Lines.{IsInLine, lines_of}
use Rattle.mh_profile.specs.Profiles.{is_within, read_lines}

-- the profile, if these bytes are still to be read
abbrev pub resumed : LineReader → List ℕ → Result Profile Fault
resumed r rest = read_lines r.number r.offset r.profile (lines_of (r.line ++ rest))

-- the number of bytes that it has taken
abbrev pub taken_by : LineReader → ℕ
taken_by r = r.offset + length r.line

-- a line has begun, and before it are no more bytes than the limit of all lines and the end of one
pub record IsBegun (r : LineReader) : Type 0 where
  pub started : r.offset ≤ most_in_all + 1
  pub counted : r.number ≤ r.offset + 1
  pub whole : IsInLine r.line

-- and its bytes so far are within the limits
pub record IsReading (r : LineReader) : Type 0 where
  pub begun : IsBegun r
  pub within : is_within r.offset r.line ≡ true

-- a reader after it took bytes: whatever follows them is read as it would have been after them; or their first fault
abbrev pub Takes : LineReader → List ℕ → Result LineReader Fault → Type 0
Takes r bytes (Ok next) = (rest : List ℕ) → resumed r (bytes ++ rest) ≡ resumed next rest
Takes r bytes (Err e) = (e ≡ outside no_memory) ⊎ ((rest : List ℕ) → resumed r (bytes ++ rest) ≡ Err e)
