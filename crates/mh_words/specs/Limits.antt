-- The limits of code over words.
use Rattle.std.specs.Prelude.{ℕ}

-- the words of a frame
abbrev pub frame_length : ℕ
frame_length = 64

-- the slots for arguments
abbrev pub argument_slots : ℕ
argument_slots = 16
