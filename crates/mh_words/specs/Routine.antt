-- Code over words as plain data: a routine computes words from those of a frame. The first number of an answer, and of what is stored, is
-- the number of all steps of the way that leads there.
use Rattle.std.specs.Prelude.{ℕ}
use Rattle.mh_words.specs.declared.word_source.WordSource.{WordSource}
use Rattle.mh_words.specs.declared.word_test.WordTest.{WordTest}

pub data WordRoutine : Type 0 where
  -- a source's word is the answer
  give : ℕ → WordSource → WordRoutine
  -- a source's word is written into a slot, and the rest follows; if the source throws, so does the routine, after these steps
  keep : ℕ → WordSource → ℕ → WordRoutine → WordRoutine
  -- a test chooses one of two
  pick : WordTest → WordRoutine → WordRoutine → WordRoutine
  -- a point's validity chooses one of two
  point : ℕ → WordRoutine → WordRoutine → WordRoutine
